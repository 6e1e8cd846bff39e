pub mod Gaps
pub mod Denial
pub mod Denies
pub mod DenialGaps

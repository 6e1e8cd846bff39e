pub mod Examples
pub mod Gaps
pub mod Ancestors
pub mod Sharing
pub mod Closest
pub mod Wildcards

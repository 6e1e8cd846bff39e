pub mod Extremes
pub mod Tables
pub mod Ldh
pub mod Full
pub mod Folded
pub mod Spelling
pub mod Examples

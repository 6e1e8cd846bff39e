pub mod Gap
pub mod Encloser
pub mod Closest
pub mod Wildcard

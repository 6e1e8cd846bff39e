pub mod Under
pub mod Checks
pub mod Private

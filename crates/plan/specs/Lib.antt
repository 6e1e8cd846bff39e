pub mod Spelled
pub mod Private

pub mod Between
pub mod NextCloser
pub mod Denials
pub mod Private

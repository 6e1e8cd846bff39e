pub mod Alphabets
pub mod Private

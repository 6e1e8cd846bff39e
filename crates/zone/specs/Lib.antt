pub mod Alphabet
pub mod Ring
pub mod Zone
pub mod Steps

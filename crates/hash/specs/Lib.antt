pub mod Digits
pub mod Ring
pub mod Between
pub mod Label
pub mod Answers
pub mod Private

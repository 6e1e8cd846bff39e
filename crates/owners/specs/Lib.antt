pub mod Layout
pub mod Sizes
pub mod Members
pub mod Lists
pub mod Gaps
pub mod Halving
pub mod Answers
pub mod Private

pub mod Subtree
pub mod Covers

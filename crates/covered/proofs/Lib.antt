pub mod Examples
pub mod Subtree
pub mod Covered
pub mod Joined

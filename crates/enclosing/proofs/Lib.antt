pub mod SameEnds
pub mod Advancing
pub mod Forking
pub mod Relating
pub mod Enclosing

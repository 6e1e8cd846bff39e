pub mod Digits
pub mod Octets
pub mod Marks
pub mod Runs

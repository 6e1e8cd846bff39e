pub mod Written
pub mod Joining

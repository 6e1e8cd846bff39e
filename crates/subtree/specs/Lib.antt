pub mod Successor
pub mod Past

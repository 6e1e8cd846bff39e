pub mod Packed
pub mod Arguments

pub mod Fields
pub mod Way
pub mod Question
pub mod Fronts
pub mod Writing
pub mod Private

pub mod Order
pub mod Sequence
pub mod Place
pub mod Compare

pub mod Risings
pub mod Sizes
pub mod Surveying
pub mod Markings
pub mod Backwards

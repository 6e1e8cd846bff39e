pub mod Neighbour
pub mod Nearest
pub mod Modified
pub mod ShortSet
pub mod Private

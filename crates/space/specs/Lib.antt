pub mod Octets
pub mod Fold
pub mod Same
pub mod Private

-- What the private functions promise each other: no public promise and no demand rests on it.
pub mod Boundary
pub mod Climbs
pub mod Depths
pub mod LastAbove
pub mod Walks

-- What the private functions promise each other: no public promise and no demand rests on it.
pub mod Table
pub mod Shown
pub mod AtOnce

-- What the private functions promise each other: no public promise and no demand rests on it.
pub mod Held
pub mod Mark
pub mod Wild

-- What the functions promise each other and the crate placing: no public promise and no demand rests on it.
pub mod Prepared
pub mod Short

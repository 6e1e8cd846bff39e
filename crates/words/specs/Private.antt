-- What the functions of this crate promise the reader of texts: no public promise and no demand rests on it.
pub mod Stops
pub mod Word

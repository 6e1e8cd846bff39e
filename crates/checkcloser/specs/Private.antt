-- What the functions promise the writer of a denial: no public promise and no demand rests on it.
pub mod Both

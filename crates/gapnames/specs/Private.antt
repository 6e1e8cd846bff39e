-- What the functions promise those that write a denial: no public promise and no demand rests on it.
pub mod Named

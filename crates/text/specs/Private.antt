-- What functions promise that no operation is: no public promise and no demand rests on it.
pub mod Measured

-- What the functions promise each other and the crate ends: no exported promise and no demand rests on it.
pub mod Raised

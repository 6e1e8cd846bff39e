-- What the functions of this crate promise each other and crate hashlabel: no exported promise and no demand rests on it.
pub mod Arrays
pub mod Below
pub mod Whole

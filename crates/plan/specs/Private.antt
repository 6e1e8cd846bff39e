-- What the functions of this crate promise each other and the crates that plan and write: no exported promise and no demand rests on it.
pub mod Greatest
pub mod Planned
pub mod Asked
pub mod Nearby

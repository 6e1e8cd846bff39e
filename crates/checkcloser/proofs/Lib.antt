pub mod BothMarks
pub mod BothPlaces

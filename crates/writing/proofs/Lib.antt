pub mod LengthOctets
pub mod Preparing
pub mod LabelWriting
pub mod PlanWriting
pub mod ShortWriting

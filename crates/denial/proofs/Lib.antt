pub mod GapPlans
pub mod CloserPlaces
pub mod Refusing
pub mod Deciding
pub mod SmallDenials
pub mod WildPlans

pub mod Raising
pub mod Planning
pub mod Finding
pub mod SuccessorPlans

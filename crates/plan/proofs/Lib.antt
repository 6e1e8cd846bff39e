pub mod FrontLabels
pub mod PlanShapes
pub mod AllDepths
pub mod NameStart
pub mod PredecessorPlans
pub mod Counting
pub mod Answering

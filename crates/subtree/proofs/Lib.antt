pub mod Examples
pub mod UnderNames
pub mod PastNames

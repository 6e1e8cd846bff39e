pub mod Depths
pub mod FullAlphabet
pub mod ZoneNames
pub mod NearestNames
pub mod Questions
pub mod SmallAnswers
pub mod ModifiedNames
pub mod ApexNames

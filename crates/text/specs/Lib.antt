pub mod Characters
pub mod Grammar
pub mod WriteText
pub mod ReadText
pub mod Reads
pub mod Private

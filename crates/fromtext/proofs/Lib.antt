pub mod Escapes
pub mod Parsing
pub mod PlainRuns
pub mod TextAnswers

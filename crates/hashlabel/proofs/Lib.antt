pub mod Grouped
pub mod Spelling
pub mod Writing

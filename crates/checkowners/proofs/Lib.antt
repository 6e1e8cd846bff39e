pub mod ZoneLines
pub mod Counting

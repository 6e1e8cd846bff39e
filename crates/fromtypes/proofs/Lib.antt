pub mod Walks
pub mod Rests
pub mod Counts
pub mod Listing

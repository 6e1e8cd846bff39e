pub mod Seeking
pub mod Extremities

pub mod Answering
pub mod Batch
pub mod Progress
pub mod Pieces
pub mod Private

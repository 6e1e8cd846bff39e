pub mod Written
pub mod Putting
pub mod Taken
pub mod CopiedBlocks
pub mod FoldedBlocks
pub mod Ends
pub mod SameBlocks
pub mod CaseBits

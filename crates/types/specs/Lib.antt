pub mod Sets
pub mod Window
pub mod Bitmap
pub mod ReadTypes
pub mod Answers

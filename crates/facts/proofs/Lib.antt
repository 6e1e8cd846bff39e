pub mod Booleans
pub mod Lists
pub mod Parts
pub mod Trying

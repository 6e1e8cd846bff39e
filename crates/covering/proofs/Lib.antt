pub mod Examples
pub mod Numbers
pub mod Sorted
pub mod Between
pub mod Closers
pub mod Denied

pub mod Key
pub mod ReadKey
pub mod Begins
pub mod Small

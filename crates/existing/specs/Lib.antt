pub mod Existing
pub mod Denied
pub mod Expanded
pub mod SignedAhead
pub mod Hashed
pub mod Split
pub mod OnTheSpot
pub mod Theorem

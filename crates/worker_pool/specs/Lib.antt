pub mod Unsent
pub mod Works

pub mod BuiltIn
pub mod Fields
pub mod Intervals
pub mod Ranges
pub mod Reading
pub mod Roster
pub mod inner

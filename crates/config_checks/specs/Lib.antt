pub mod Configurations
pub mod Copies
pub mod Faults
pub mod Notes
pub mod Plants
pub mod Summaries
pub mod Values

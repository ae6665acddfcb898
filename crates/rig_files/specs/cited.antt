pub mod Inputs
pub mod Statuses

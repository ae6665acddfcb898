pub mod Switches
pub mod Tasks

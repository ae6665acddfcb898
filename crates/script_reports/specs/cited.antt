pub mod Runs
pub mod Reports
pub mod Updates

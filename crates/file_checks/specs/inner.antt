pub mod Histories
pub mod Reports

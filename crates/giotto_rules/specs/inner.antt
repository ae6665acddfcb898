pub mod Periods
pub mod Scopes

pub mod Differences
pub mod Suites

pub mod Finished
pub mod Jobs

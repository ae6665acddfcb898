pub mod Finished
pub mod JobLists
pub mod Jobs
pub mod cited

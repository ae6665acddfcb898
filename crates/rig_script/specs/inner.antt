pub mod Courses
pub mod Driver
pub mod Ended
pub mod Faults
pub mod Noting
pub mod Records
pub mod Refused
pub mod Script

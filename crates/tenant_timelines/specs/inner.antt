pub mod Axes
pub mod Jobs
pub mod Marks
pub mod Windows

pub mod Comparing
pub mod Escaping
pub mod Placing
pub mod Reading
pub mod ReportLines
pub mod Testing
pub mod Updating

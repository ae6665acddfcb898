pub mod CommonMultiples
pub mod Granted
pub mod InvokedPeriods
pub mod Numbered
pub mod Quiet
pub mod Updates

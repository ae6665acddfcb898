pub mod RecordedRuns
pub mod Reported
pub mod Reporting
pub mod Watched

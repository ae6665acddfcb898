pub mod BrokenOff
pub mod RecordedRuns
pub mod Reporting
pub mod Standing

pub mod ReadRuns

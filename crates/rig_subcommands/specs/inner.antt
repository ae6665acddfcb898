pub mod Comparisons
pub mod TestedRuns

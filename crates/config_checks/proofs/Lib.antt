pub mod CopyExamples
pub mod Listed
pub mod Noting
pub mod Valued

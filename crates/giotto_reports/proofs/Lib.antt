pub mod CommentRows
pub mod Commented
pub mod LinesOfText
pub mod Refusing
pub mod Searching
pub mod Showing
pub mod SummaryExamples
pub mod Writing

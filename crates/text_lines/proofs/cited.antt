pub mod AnsweredLines
pub mod CountedReads
pub mod FirstLines

pub mod Alike
pub mod Answers
pub mod Changes
pub mod Comparisons
pub mod Differences
pub mod Texts
pub mod inner

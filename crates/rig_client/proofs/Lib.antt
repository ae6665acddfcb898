pub mod LineAnswers
pub mod Marks
pub mod NotFound

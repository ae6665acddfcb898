pub mod Faults
pub mod LineAnswers

pub mod Heard
pub mod HostAnswers
pub mod Past
pub mod Refusals

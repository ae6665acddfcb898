pub mod AtRest
pub mod Loops

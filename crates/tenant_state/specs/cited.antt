pub mod Halves
pub mod Standing

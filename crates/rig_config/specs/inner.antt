pub mod Gives
pub mod Numbers

pub mod Doing
pub mod Printing

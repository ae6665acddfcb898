pub mod Named
pub mod Reached
pub mod Retested
pub mod Ticks
pub mod inner

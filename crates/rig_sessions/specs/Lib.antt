pub mod Talks
pub mod inner

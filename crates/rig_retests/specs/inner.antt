pub mod Recording
pub mod Texts
pub mod Watching

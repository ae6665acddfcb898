pub mod Naming
pub mod Reaching
pub mod Recording
pub mod Watching

pub mod Trace
pub mod cited

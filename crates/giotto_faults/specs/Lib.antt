pub mod Expected
pub mod Faults
pub mod Findings
pub mod Kinds
pub mod Nesting
pub mod Places
pub mod Ports

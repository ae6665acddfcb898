pub mod Adder
pub mod CanonicalNesting
pub mod SameToken
pub mod SmallTasks

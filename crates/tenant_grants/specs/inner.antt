-- What the proofs use, but no contract of a public call.
pub mod Held
pub mod Tables

pub mod Couplings
pub mod Fields
pub mod Reading
pub mod inner

pub mod ArrayValues
pub mod BoundsExamples
pub mod ConfigExamples
pub mod Drivers
pub mod NumbersOf
pub mod Tenants

pub mod CommonPeriods
pub mod Due
pub mod Grants
pub mod Places
pub mod Readings
pub mod Replacement

pub mod Codes
pub mod DriverCode
pub mod Places
pub mod Sources

pub mod Halves
pub mod Instants
pub mod Tables
pub mod Tenants

pub mod Copies
pub mod EntryTable
pub mod Invoked
pub mod Releases
pub mod SameTenants
pub mod Tenants

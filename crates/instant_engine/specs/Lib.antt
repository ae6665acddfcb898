pub mod Tenants
pub mod cited
pub use Rattle.tenant_state.specs.job_table
pub use Rattle.tenant_state.specs as state
pub use Rattle.tenant_state.specs.well_formed

pub mod ActiveTasks
pub mod Jobs
pub mod Memory
pub mod Standing
pub mod Tenants
pub mod cited
pub mod inner
pub use Rattle.tenant_jobs.specs as job_table
pub use Rattle.tenant_slots.specs.well_formed

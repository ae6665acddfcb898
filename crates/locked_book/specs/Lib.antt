pub mod Books
pub mod Logs
pub mod inner
pub use Rattle.host_core.specs.job_table

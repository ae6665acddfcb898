pub mod Adding
pub mod HostStanding
pub mod ListReplies
pub mod Questions
pub mod SameHosts
pub mod inner
pub use Rattle.instant_engine.specs as engine
pub use Rattle.instant_engine.specs.job_table
pub use Rattle.instant_engine.specs.state
pub use Rattle.instant_engine.specs.well_formed

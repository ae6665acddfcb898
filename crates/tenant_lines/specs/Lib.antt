pub mod CommandLine
pub mod GrantLines
pub mod Replies
pub mod SharedTexts
pub mod Words
pub mod cited
pub mod inner
pub use Rattle.tenant_grants.specs.config
pub use Rattle.tenant_grants.specs as grants
pub use Rattle.tenant_trace.specs as trace

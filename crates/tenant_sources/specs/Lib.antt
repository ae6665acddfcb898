pub mod Links
pub mod cited
pub mod inner
pub use Rattle.host_core.specs as host

pub mod BrokenOff
pub mod Courses
pub mod Given
pub mod Instants
pub mod cited
pub mod inner
pub use Rattle.host_core.specs.engine
pub use Rattle.host_core.specs as host

pub mod Grants
pub mod Kept
pub mod inner
pub use Rattle.rig_config.specs as config

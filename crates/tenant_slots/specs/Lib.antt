pub mod Places
pub mod cited
pub mod inner
pub use Rattle.giotto_check.specs as well_formed

pub mod inner
pub use Rattle.giotto_text.specs as text

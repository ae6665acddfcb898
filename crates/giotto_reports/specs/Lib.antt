pub mod Comments
pub mod Parts
pub mod Reports
pub mod Summaries
pub use Rattle.giotto_breaks.specs.faults

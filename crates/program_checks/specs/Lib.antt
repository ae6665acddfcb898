pub mod Budgets
pub mod Excess
pub mod inner
pub mod Numbers
pub mod Programs
pub use Rattle.giotto_reports.specs.faults
pub use Rattle.giotto_reports.specs as reports

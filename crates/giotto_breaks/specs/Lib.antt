pub use Rattle.giotto_faults.specs as faults
pub use Rattle.giotto_rules.specs as rules
pub use Rattle.giotto_rules.specs.text

use Rattle.std.proofs.Common.{refl}
use Rattle.toml.proofs.Views.{view-Array}
use Rattle.config_checks.proofs.Listed.{list_of_view}
use Rattle.config_checks.proofs.faults.values_of.Goals as goal

pub returns-in-Array : goal.returns-in-Array
returns-in-Array c = rw (c.in-Array.is, view-Array c.in-Array.values, list_of_view c.in-Array.values.items, c.as_slice.ensures.value) refl

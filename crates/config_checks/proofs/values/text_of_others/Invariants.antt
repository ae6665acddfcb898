use Rattle.std.proofs.Common.{take, string_bytes}
use Rattle.toml.specs.View.{items_view}
use Rattle.config_checks.specs.Values.{AreTold}
use Rattle.config_checks.proofs.values.text_of_others.Given as goal

abbrev pub invariant-loop-value : goal.invariant-loop-value
invariant-loop-value l = AreTold (items_view (take l.value-index l.values)) (string_bytes l.text)

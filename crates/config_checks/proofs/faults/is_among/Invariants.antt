use Rattle.std.proofs.Common.{◌≡◌, drop, map}
use Rattle.toml.specs.View.{view}
use Rattle.std.specs.List.{list_any}
use Rattle.config_checks.specs.Faults.{is_same}
use Rattle.config_checks.proofs.faults.is_among.Given as goal

abbrev pub invariant-loop-other : goal.invariant-loop-other
invariant-loop-other l = list_any (is_same (view l.value)) (map view (drop l.other-index l.values)) ≡ list_any (is_same (view l.value)) (map view l.values)

use Rattle.std.proofs.Common.{◌≡◌, drop, map}
use Rattle.toml.specs.View.{view}
use Rattle.std.specs.List.{find}
use Rattle.config_checks.specs.Faults.{has_one}
use Rattle.config_checks.proofs.faults.first_in.Given as goal

abbrev pub invariant-loop-value : goal.invariant-loop-value
invariant-loop-value l = find (has_one l.field (map view l.tenants)) (map view (drop l.value-index l.values)) ≡ find (has_one l.field (map view l.tenants)) (map view l.values)

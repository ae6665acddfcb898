use Rattle.std.proofs.Common.{◌≡◌, [], drop, map, take}
use Rattle.toml.specs.View.{view}
use Rattle.config_checks.specs.Faults.{shared_from}
use Rattle.config_checks.proofs.faults.shared_in.Given as goal

abbrev pub invariant-loop-place : goal.invariant-loop-place
invariant-loop-place l = shared_from l.field (map view (take l.place l.tenants)) (map view (drop l.place l.tenants)) ≡ shared_from l.field [] (map view l.tenants)

use Rattle.std.proofs.Common.{◌≡◌, drop, map}
use Rattle.toml.specs.View.{view}
use Rattle.config_checks.specs.Faults.{has_one}
use Rattle.config_checks.proofs.faults.has_one.Given as goal

abbrev pub invariant-loop-tenant : goal.invariant-loop-tenant
invariant-loop-tenant l = has_one l.field (map view (drop l.tenant-index l.tenants)) (view l.value) ≡ has_one l.field (map view l.tenants) (view l.value)

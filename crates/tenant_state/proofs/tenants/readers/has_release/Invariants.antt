use Rattle.std.proofs.Common.{◌≡◌, drop}
use Rattle.std.specs.List.{list_any}
use Rattle.tenant_state.specs.inner.Tenants.{is_of_job}
use Rattle.tenant_state.proofs.tenants.readers.has_release.Given as goal

abbrev pub invariant-loop-entry : goal.invariant-loop-entry
invariant-loop-entry l = list_any (is_of_job l.checked l.id) (drop l.entry-index l.active) ≡ list_any (is_of_job l.checked l.id) l.active

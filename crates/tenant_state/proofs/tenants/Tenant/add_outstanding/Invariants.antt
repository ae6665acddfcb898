use Rattle.std.proofs.Common.{◌≡◌, ◌++◌, map, take}
use Rattle.rig_model.specs.Jobs.{job_of}
use Rattle.tenant_state.specs.Tenants.{active_of}
use Rattle.tenant_state.proofs.Completing.{left_of}
use Rattle.tenant_state.proofs.tenants.Tenant.add_outstanding.Given as goal

abbrev pub invariant-loop-active : goal.invariant-loop-active
invariant-loop-active l =
    l.names.items ≡ l.initial.names.items ++ map (job_of l.tenant) (left_of l.tenant l.finished.entries (map (active_of l.checked) (take l.active-index l.active-items)))

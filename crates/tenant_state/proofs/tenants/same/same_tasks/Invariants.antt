use Rattle.std.proofs.Common.{◌≡◌, map, take}
use Rattle.tenant_state.specs.Tenants.{active_of}
use Rattle.tenant_state.proofs.tenants.same.same_tasks.Given as goal

abbrev pub invariant-loop-i : goal.invariant-loop-i
invariant-loop-i l = map (active_of l.one) (take l.i l.tasks) ≡ map (active_of l.other) (take l.i l.others)

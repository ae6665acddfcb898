use Rattle.std.proofs.Common.{◌≡◌, ◌≤◌, ◌+◌, map, length, drop}
use Rattle.tenant_state.specs.Tenants.{active_of}
use Rattle.tenant_state.proofs.Completing.{AreComputedTo, left_of}
use Rattle.tenant_state.proofs.tenants.Tenant.complete_all.Given as goal

abbrev pub invariant-loop-active : goal.invariant-loop-active
invariant-loop-active l =
    let tasks = map (active_of l.checked) l.active-items in
    let left = left_of l.self-inside.grants.owner.place in
    record {
      few : l.number ≤ l.active-index;
      number : l.number + length (left l.finished.entries (drop l.active-index tasks)) ≡ length (left l.initial.finished.entries tasks);
      to : AreComputedTo l.checked l.self-inside.grants.owner.place tasks l.active-index l.initial.finished.entries l.finished.entries;
      room : l.finished.room ≡ l.initial.finished.room;
    }

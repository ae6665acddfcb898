use Rattle.std.proofs.Common.{◌≡◌, ◌<◌, drop}
use Rattle.std.specs.List.{find, AllByRecursion}
use Rattle.giotto_check.specs.declared.timetables.SlotInvocation.{SlotInvocation}
use Rattle.tenant_state.specs.inner.EntryTable.{is_left_open}
use Rattle.tenant_state.specs.inner.Tenants.{is_done}
use Rattle.tenant_state.proofs.tenants.phase_one.first_unfinished.Given as goal

abbrev pub invariant-loop-invocation : goal.invariant-loop-invocation
invariant-loop-invocation l =
    let open_at = is_left_open l.ending.time (is_done l.ending.finished.now.entries l.ending.tenant l.ending.checked.now) l.active in
    record {
      time : l.due ≡ l.ending.time;
      positive : AllByRecursion (λ (i : SlotInvocation). 0 < i.interval) (drop l.invocation-index l.invocations);
      left : find open_at (drop l.invocation-index l.invocations) ≡ find open_at l.invocations;
    }

use Rattle.std.proofs.Common.{◌≡◌, drop}
use Rattle.std.specs.List.{AllByRecursion}
use Rattle.tenant_state.specs.inner.EntryTable.{is_task_open}
use Rattle.tenant_state.specs.inner.Tenants.{IsActiveOf, is_done}
use Rattle.tenant_state.proofs.tenants.phase_one.is_unfinished.Given as goal

abbrev pub invariant-loop-a : goal.invariant-loop-a
invariant-loop-a l =
    let done = is_done l.ending.finished.now.entries l.ending.tenant l.ending.checked.now in
    let rest = drop l.a-index l.active in
    record {
      each : AllByRecursion (IsActiveOf l.ending.checked.now) rest;
      left : is_task_open done rest l.task ≡ is_task_open done l.active l.task;
    }

use Rattle.std.proofs.Common.{◌≡◌, ◌<◌, ◌%◌, ◌==◌, ◌&&◌, nat_eq, drop}
use Rattle.std.specs.List.{list_any, AllByRecursion}
use Rattle.giotto_check.specs.declared.timetables.SlotInvocation.{SlotInvocation}
use Rattle.tenant_slots.proofs.due.is_task_due.Given as goal

abbrev pub invariant-loop-i : goal.invariant-loop-i
invariant-loop-i l =
    let due = λ (i : SlotInvocation). nat_eq l.task i.task && (l.time % i.interval == 0) in
    record {
      positive : AllByRecursion (λ (i : SlotInvocation). 0 < i.interval) (drop l.i-index l.invocations);
      left : list_any due (drop l.i-index l.invocations) ≡ list_any due l.invocations;
    }

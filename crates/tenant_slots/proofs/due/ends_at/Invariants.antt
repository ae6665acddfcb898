use Rattle.std.proofs.Common.{◌≡◌, ◌<◌, ◌%◌, ◌==◌, ◌&&◌, nat_eq, drop}
use Rattle.std.specs.List.{list_any, AllByRecursion}
use Rattle.giotto_check.specs.declared.timetables.SlotInvocation.{SlotInvocation}
use Rattle.tenant_slots.proofs.due.ends_at.Given as goal

abbrev pub invariant-loop-invocation : goal.invariant-loop-invocation
invariant-loop-invocation l =
    let ends = λ (i : SlotInvocation). nat_eq l.place i.task && (l.time % i.interval == 0) in
    record {
      time : l.due ≡ l.time;
      positive : AllByRecursion (λ (i : SlotInvocation). 0 < i.interval) (drop l.invocation-index l.invocations);
      left : list_any ends (drop l.invocation-index l.invocations) ≡ list_any ends l.invocations;
    }

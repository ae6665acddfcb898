use Rattle.std.proofs.Common.{◌≡◌, ◌<◌, ◌||◌, ℕ, false, drop, get_or, length}
use Rattle.std.specs.List.{AllByRecursion}
use Rattle.giotto_check.specs.declared.timetables.SlotInvocation.{SlotInvocation}
use Rattle.tenant_slots.specs.cited.Due.{is_among_due}
use Rattle.tenant_slots.proofs.due.mark_due.Given as goal
use Rattle.tenant_slots.specs.declared.due.TheConstants.{TABLED_TASKS}

abbrev pub invariant-loop-i : goal.invariant-loop-i
invariant-loop-i l =
    record {
      time : l.due ≡ l.time;
      long : length l.marks ≡ TABLED_TASKS;
      positive : AllByRecursion (λ (i : SlotInvocation). 0 < i.interval) (drop l.i-index l.invocations);
      left : (t : ℕ) → t < TABLED_TASKS → (get_or l.marks t false || is_among_due l.time t (drop l.i-index l.invocations)) ≡ is_among_due l.time t l.invocations;
    }

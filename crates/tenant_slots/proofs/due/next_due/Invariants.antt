use Rattle.std.proofs.Common.{◌<◌, ◌≤◌, ◌-◌, ◌^◌, take}
use Rattle.giotto_check.specs.declared.timetables.SlotUpdate.{SlotUpdate}
use Rattle.giotto_check.specs.declared.timetables.SlotExit.{SlotExit}
use Rattle.giotto_check.specs.declared.timetables.SlotInvocation.{SlotInvocation}
use Rattle.tenant_slots.proofs.cited.Quiet.{AreQuiet, AreDue}
use Rattle.tenant_slots.proofs.due.next_due.Given as goal

abbrev pub invariant-loop-update : goal.invariant-loop-update
invariant-loop-update l = record {
  small : l.next < 2 ^ 64;
  from : l.time ≤ l.next;
  quiet : AreQuiet (λ (e : SlotUpdate). e.interval) (take l.update-index l.update-items) l.time l.next;
  due : AreDue (λ (e : SlotUpdate). e.interval) (take l.update-index l.update-items) (2 ^ 64 - 1) l.next;
}

abbrev pub invariant-loop-exit : goal.invariant-loop-exit
invariant-loop-exit l = record {
  small : l.next < 2 ^ 64;
  from : l.time ≤ l.next;
  less : l.next ≤ l.initial.next;
  quiet : AreQuiet (λ (e : SlotExit). e.interval) (take l.exit-index l.exit-items) l.time l.next;
  due : AreDue (λ (e : SlotExit). e.interval) (take l.exit-index l.exit-items) l.initial.next l.next;
}

abbrev pub invariant-loop-invocation : goal.invariant-loop-invocation
invariant-loop-invocation l = record {
  small : l.next < 2 ^ 64;
  from : l.time ≤ l.next;
  less : l.next ≤ l.initial.next;
  quiet : AreQuiet (λ (e : SlotInvocation). e.interval) (take l.invocation-index l.invocation-items) l.time l.next;
  due : AreDue (λ (e : SlotInvocation). e.interval) (take l.invocation-index l.invocation-items) l.initial.next l.next;
}

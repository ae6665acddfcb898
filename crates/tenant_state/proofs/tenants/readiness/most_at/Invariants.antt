use Rattle.std.proofs.Common.{◌≡◌, ◌≤◌, ◌%◌, ◌==◌, Some, length, max, filter, take, drop, slice_get}
use Rattle.giotto_check.specs.declared.timetables.SlotInvocation.{SlotInvocation}
use Rattle.rig_model.specs.text.Program.{ModeDeclaration}
use Rattle.tenant_state.specs.Standing.{most_at}
use Rattle.tenant_state.proofs.Shares.{most_entered}
use Rattle.tenant_state.proofs.tenants.readiness.most_at.Given as goal

abbrev pub invariant-loop-invocation : goal.invariant-loop-invocation
invariant-loop-invocation l = record {
  time : l.due ≡ l.time;
  few : l.most ≤ l.invocation-index;
  counted : l.most ≡ length (filter (λ (e : SlotInvocation). l.time % e.interval == 0) (take l.invocation-index l.invocation-items));
}

abbrev pub invariant-loop-exit : goal.invariant-loop-exit
invariant-loop-exit l = record {
  time : l.due ≡ l.time;
  most : (m : ModeDeclaration) → slice_get l.checked.modes l.mode ≡ Some m → max l.most (most_entered l.checked m l.time (drop l.exit-index m.switches)) ≡ most_at l.checked m l.time;
}

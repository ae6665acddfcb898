use Rattle.std.proofs.Common.{◌≡◌, ◌≤◌}
use Rattle.instant_engine.specs.cited.Halves.{}
use Rattle.instant_engine.proofs.Kept.{AreLeftTo}
use Rattle.instant_engine.proofs.cited.Loops.{AreSteppedTo}
use Rattle.instant_engine.proofs.instants.keep.Given as goal
use Rattle.tenant_state.specs.cited.Standing.{without_ended}

abbrev pub invariant-loop-i : goal.invariant-loop-i
invariant-loop-i l = record {
  steps : AreSteppedTo (λ t x y. y ≡ without_ended x) l.i l.initial.tenants l.tenants;
  left : AreLeftTo l.i l.initial.tenants l.initial.finished.entries l.finished.entries;
  room : l.initial.finished.room ≤ l.finished.room;
}

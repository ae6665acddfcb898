use Rattle.std.proofs.Common.{◌≡◌, take}
use Rattle.host_core.specs.inner.Trials.{marked}
use Rattle.host_core.proofs.trials.kept.Given as goal

abbrev pub invariant-loop-i : goal.invariant-loop-i
invariant-loop-i l = l.kept.items ≡ marked (take l.i l.events) (take l.i l.stays)

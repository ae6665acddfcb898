use Rattle.std.proofs.Common.{◌≡◌, ◌≢◌, ◌<◌, ℕ, false}
use Rattle.rig_retests.specs.Reached.{is_marked_in}
use Rattle.rig_retests.proofs.reaches.ReachTable.has_other.Given as goal

abbrev pub invariant-loop-source : goal.invariant-loop-source
invariant-loop-source l = (s : ℕ) → s < l.source → s ≢ l.tenant → is_marked_in l.self l.tenant s ≡ false

use Rattle.std.proofs.Common.{◌<◌, ℕ}
use Rattle.rig_server.specs.inner.Archived.{Continues}
use Rattle.rig_server.proofs.archived.Archived.first_unlike.Given as goal

abbrev pub invariant-loop-i : goal.invariant-loop-i
invariant-loop-i g l = (k : ℕ) → k < l.i → Continues l.self.rows.items l.passes k

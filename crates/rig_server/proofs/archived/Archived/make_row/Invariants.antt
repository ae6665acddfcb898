use Rattle.std.proofs.Common.{◌≡◌, ◌+◌, ◌-◌, ℕ, length}
use Rattle.rig_server.specs.inner.Archived.{archived_of}
use Rattle.rig_server.proofs.archived.Archived.make_row.Given as goal

abbrev pub invariant-loop-self : goal.invariant-loop-self
invariant-loop-self l = (s : ℕ) → archived_of l.self.rows.items s ≡ archived_of l.initial.self.rows.items s

abbrev pub decreases-loop-self : goal.decreases-loop-self
decreases-loop-self l = l.seat + 1 - length l.self.rows.items

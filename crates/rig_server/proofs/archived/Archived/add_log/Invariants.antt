use Rattle.std.proofs.Common.{◌≡◌, ◌++◌, ◌-◌, ℕ, drop, length}
use Rattle.rig_model.specs.Logs.{calls_of_seat}
use Rattle.rig_server.specs.inner.Archived.{archived_of}
use Rattle.rig_server.proofs.archived.Archived.add_log.Given as goal

abbrev pub invariant-loop-noted : goal.invariant-loop-noted
invariant-loop-noted l = (seat : ℕ) → archived_of l.self.rows.items seat ++ calls_of_seat seat (drop l.noted l.log) ≡ archived_of l.initial.self.rows.items seat ++ calls_of_seat seat (drop l.initial.noted l.log)

abbrev pub decreases-loop-noted : goal.decreases-loop-noted
decreases-loop-noted l = length l.log - l.noted

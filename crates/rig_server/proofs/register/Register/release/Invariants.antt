use Rattle.std.proofs.Common.{◌≡◌, ◌-◌, length}
use Rattle.rig_server.specs.inner.Archived.{IsReleased}
use Rattle.rig_server.proofs.register.Register.release.Given as goal

abbrev pub invariant-loop-at : goal.invariant-loop-at
invariant-loop-at g l = IsReleased l.initial.archived.rows.items l.archived.rows.items l.initial.self.passes.items l.self.passes.items
    × (l.self.streams ≡ l.initial.self.streams) × (l.self.ungreeted ≡ l.initial.self.ungreeted) × (l.self.is_closed ≡ l.initial.self.is_closed)

abbrev pub decreases-loop-at : goal.decreases-loop-at
decreases-loop-at g l = length l.self.passes.items - l.at

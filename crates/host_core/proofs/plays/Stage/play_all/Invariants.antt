use Rattle.std.proofs.Common.{[], take, reverse}
use Rattle.host_core.specs.inner.Playing.{IsPlayed}
use Rattle.rig_model.specs.Base.{Setting}
use Rattle.host_core.proofs.plays.Stage.play_all.Given as goal

abbrev pub invariant-loop-i : goal.invariant-loop-i
invariant-loop-i l =
    (setting : Setting) → IsPlayed setting [] l.initial.self.host l.initial.self.texts.items l.initial.self.released.keys
    → IsPlayed setting (reverse (take l.i l.events)) l.self.host l.self.texts.items l.self.released.keys

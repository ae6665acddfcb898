use Rattle.std.proofs.Common.{ℕ, List, take}
use Rattle.std.specs.Io.KnownBytes.{Appends}
use Rattle.rig_model.specs.Sessions.{Outcome}
use Rattle.rig_sessions.specs.inner.Answered.{AreTold}
use Rattle.rig_sessions.proofs.waiting.say_replies.Given as goal

abbrev pub invariant-loop-call : goal.invariant-loop-call
invariant-loop-call g l =
    (outcomes : List Outcome) × (said : List ℕ) × AreTold (take l.call-index l.calls) outcomes said × Appends (g.W.Write.contents l.initial.writer) (g.W.Write.contents l.writer) said

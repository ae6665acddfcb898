use Rattle.std.proofs.Common.{◌≡◌, ◌≤◌, ◌-◌, ℕ, List, length, take}
use Rattle.std.specs.Io.KnownBytes.{Appends}
use Rattle.rig_model.specs.config.Roster.{Rig}
use Rattle.rig_model.specs.Sessions.{State}
use Rattle.rig_sessions.specs.inner.Answered.{AreAnswered, AreWaiting}
use Rattle.rig_sessions.proofs.waiting.call_waiting.Given as goal

abbrev pub invariant-loop-at : goal.invariant-loop-at
invariant-loop-at g l =
    record {
      waiting : l.work.waiting.items ≡ l.initial.work.waiting.items;
      tenant : l.work.tenant ≡ l.initial.work.tenant;
      within : l.at ≤ length l.initial.work.waiting.items;
      seat : l.pass.seat ≡ l.initial.pass.seat;
      answered : (config : Rig) (s : State) (texts : List (List ℕ)) → AreWaiting config s l.initial.work.tenant texts l.initial.work.waiting.items
          → AreAnswered config s (take l.at texts) s l.initial.pass l.pass (Appends (g.W.Write.contents l.initial.writer) (g.W.Write.contents l.writer));
    }

abbrev pub decreases-loop-at : goal.decreases-loop-at
decreases-loop-at g l = length l.initial.work.waiting.items - l.at

use Rattle.std.proofs.Common.{◌≡◌, ◌≢◌, ℕ, List, [], ◌++◌}
use Rattle.std.specs.Prelude.{IfSome}
use Rattle.rig_model.specs.declared.logged.Call.{Call}
use Rattle.rig_model.specs.Sessions.{ended}
use Rattle.text_lines.specs.cited.Reading.{AreAtLineStart, AreCounted, IsLeft, has_ended, left_at_most, reads_of}
use Rattle.rig_sessions.proofs.SoFar.{IsOn}
use Rattle.rig_sessions.proofs.talking.converse.Given as goal

abbrev pub invariant-loop-texts : goal.invariant-loop-texts
invariant-loop-texts g l =
    let left = g.I.Read.remaining in
    let contents = g.W.Write.contents in
    record {
      begins : AreAtLineStart l.lines;
      counted : AreCounted 0 (reads_of l.lines) (left l.initial.reader) (left l.reader);
      pass : (made : List Call) × (l.pass.calls ≡ l.initial.pass.calls ++ made);
      seat : l.pass.seat ≡ l.initial.pass.seat;
      config : l.session.config ≡ l.config;
      waiting : l.work.waiting.items ≡ [];
      alive : l.session.state ≢ ended;
      on : IfSome (left l.initial.reader) (λ bytes. (rest : List ℕ) × IsLeft l.lines (left l.reader) rest
          × IsOn l.config bytes rest (has_ended l.lines) l.session.state l.initial.pass l.pass (contents l.initial.writer) (contents l.writer));
    }

abbrev pub decreases-loop-texts : goal.decreases-loop-texts
decreases-loop-texts g l = left_at_most l.lines

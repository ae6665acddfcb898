use Rattle.std.proofs.Common.{◌≡◌, map, string_bytes, take}
use Rattle.std.specs.Io.KnownBytes.{Appends}
use Rattle.rig_sessions.specs.inner.Answered.{IsUnderWay}
use Rattle.rig_sessions.proofs.talking.answer_all.Given as goal

abbrev pub invariant-loop-line : goal.invariant-loop-line
invariant-loop-line g l =
    record {
      config : l.session.config ≡ l.initial.session.config;
      seat : l.pass.seat ≡ l.initial.pass.seat;
      under_way : IsUnderWay l.initial.session.config l.initial.session.state (map string_bytes (take l.line-index l.lines)) l.session.state l.work.tenant l.work.waiting.items l.initial.pass l.pass
          (Appends (g.W.Write.contents l.initial.writer) (g.W.Write.contents l.writer));
    }

use Rattle.std.proofs.Common.{◌≡◌, ℕ, ◌≤◌, ◌+◌, ◌-◌, true, List, if◌then◌else◌}
use Rattle.std.specs.Io.KnownBytes.{Keeps}
use Rattle.tokio_util.specs.Codec.Lines.{at_line_start}
use Rattle.rig_model.specs.declared.limits.TheConstants.{MAX_LINE, MAX_READS}
use Rattle.text_lines.specs.cited.Reading.{IsReading, IsLeft, AreAhead, AreCounted, left_at_most, reads_of}
use Rattle.text_lines.proofs.lines.Lines.next_line.Given as goal

abbrev pub invariant-loop-self : goal.invariant-loop-self
invariant-loop-self g l =
    let left = g.R.Read.remaining in
    record {
      reading : (l.initial.self.codec ≡ at_line_start MAX_LINE) → IsReading l.self.codec l.self.buffer.items;
      ahead : (bytes : List ℕ) → IsLeft l.initial.self (left l.initial.reader) bytes → AreAhead l.self (left l.reader) bytes;
      counted : AreCounted (reads_of l.initial.self) (reads_of l.self) (left l.initial.reader) (left l.reader);
      bound : reads_of l.initial.self ≤ MAX_READS → reads_of l.self ≤ MAX_READS;
      fewer : (l.initial.self.codec ≡ at_line_start MAX_LINE) → left_at_most l.self ≤ left_at_most l.initial.self;
      stays_ended : l.initial.self.at_end ≡ true → l.self.at_end ≡ true;
      written : Keeps (g.W.Write.contents l.initial.writer) (g.W.Write.contents l.writer);
    }

abbrev pub decreases-loop-self : goal.decreases-loop-self
decreases-loop-self g l = (if l.self.at_end then 0 else 1) + (MAX_READS - reads_of l.self)

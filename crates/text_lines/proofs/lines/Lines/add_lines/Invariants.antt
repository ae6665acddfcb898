use Rattle.std.proofs.Common.{◌≡◌, ◌<◌, ℕ, List, length, map, string_bytes, Option, Ok, ◌-◌}
use Rattle.text_lines.specs.declared.lines.Lines.{Lines}
use Rattle.text_lines.specs.declared.lines.TheConstants.{MOST_LINES}
use Rattle.text_lines.specs.cited.Batches.{AreFirstLines}
use Rattle.text_lines.specs.cited.Reading.{IsFurther, IsLeft, IsNextLine, has_ended, reads_of}
use Rattle.text_lines.proofs.lines.Lines.add_lines.Given as goal

abbrev pub invariant-loop-line : goal.invariant-loop-line
invariant-loop-line l =
    record {
      lines : (remaining : Option (List ℕ)) (bytes : List ℕ) → IsNextLine bytes (Ok l.fn.first) remaining (has_ended l.initial.self) (IsLeft l.initial.self remaining)
          → AreFirstLines bytes (map string_bytes l.texts.items) (has_ended l.self) (λ rest. IsNextLine rest (Ok l.line) remaining (has_ended l.self) (IsLeft l.self remaining));
      further : (before : Lines) → IsFurther before (Ok l.fn.first) l.initial.self → IsFurther before (Ok l.line) l.self;
      reads : reads_of l.self ≡ reads_of l.initial.self;
      ended : has_ended l.self ≡ has_ended l.initial.self;
      few : length l.texts.items < MOST_LINES;
    }

abbrev pub decreases-loop-line : goal.decreases-loop-line
decreases-loop-line l = MOST_LINES - length l.texts.items

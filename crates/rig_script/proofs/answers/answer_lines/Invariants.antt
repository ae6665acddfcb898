use Rattle.std.proofs.Common.{◌≡◌, ◌++◌, ℕ, List, All}
use Rattle.rig_model.specs.Answered.{IsText}
use Rattle.rig_model.specs.TextLines.{cut}
use Rattle.rig_model.specs.declared.events.Event.{Event}
use Rattle.std.specs.Prelude.{◌↔◌, IfSome}
use Rattle.rig_script.specs.Given.{texts_of}
use Rattle.rig_script.specs.cited.Past.{ForEachPastReading}
use Rattle.text_lines.specs.cited.Reading.{AreAtLineStart, AreCounted, IsLeft, has_ended, left_at_most, reads_of}
use Rattle.rig_model.specs.Script.{reply_to_line, past_behind}
use Rattle.text_lines.proofs.cited.AnsweredLines.{HasCome}
use Rattle.rig_script.proofs.answers.answer_lines.Given as goal

abbrev pub invariant-loop-lines : goal.invariant-loop-lines
invariant-loop-lines g l =
    let left = g.R.Read.remaining in
    let contents = g.W.Write.contents in
    let is_after = g.A.Answers.is_after in
    record {
      begins : AreAtLineStart l.lines;
      counted : AreCounted 0 (reads_of l.lines) (left l.initial.reader) (left l.reader);
      texts : IfSome (left l.initial.reader) (λ bytes. (rest : List ℕ) × IsLeft l.lines (left l.reader) rest × (All IsText (cut bytes) ↔ All IsText (cut rest)));
      answering : ForEachPastReading (is_after l.initial.answers) (left l.initial.reader) (λ setting texts past bytes. (rest : List ℕ) × IsLeft l.lines (left l.reader) rest × (now : List Event) × (given : List (List ℕ))
          × is_after l.answers setting given now × HasCome (reply_to_line setting) (past_behind setting) past bytes (contents l.initial.writer) now rest (has_ended l.lines) (contents l.writer)
          × (texts ++ texts_of (cut bytes) ≡ given ++ texts_of (cut rest)));
    }

abbrev pub decreases-loop-lines : goal.decreases-loop-lines
decreases-loop-lines g l = left_at_most l.lines

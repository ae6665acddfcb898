use Rattle.std.proofs.Common.{◌+◌, ◌-◌, ◌*◌, ℕ, List, length, Err, Option, Result, sym, ap, subst, ◌∙◌}
use Rattle.std.proofs.lemmas.Result.{err_from_is_err_and}
use Rattle.text_lines.specs.declared.faults.LinesFault.{LinesFault}
use Rattle.text_lines.specs.declared.lines.Line.{Line}
use Rattle.text_lines.specs.declared.lines.TheConstants.{PAGE}
use Rattle.rig_model.specs.declared.limits.TheConstants.{MAX_READS}
use Rattle.text_lines.specs.cited.Batches.{IsAtHand}
use Rattle.text_lines.specs.cited.Reading.{IsNextLine}
use Rattle.text_lines.proofs.NextLine.{AreAheadIn, IsLeftIn, fewer_left, line_further, line_next, reading_resumes, reading_starts, unread_next}
use Rattle.text_lines.proofs.lines.Lines.at_hand.Goals as goal

pub returns-in-Ok-Some-clause-line : goal.returns-in-Ok-Some-clause-line
returns-in-Ok-Some-clause-line c = λ remaining bytes left.
    let s = c.args.self.now in
    line_next bytes s.codec s.buffer.items remaining s.at_end c.in-Ok-Some.text c.decode.new.self c.decode.new.src.items
    (reading_starts s.codec s.buffer.items left.0) left.1 (rw c.in-Ok-Some.field-0-is at c.in-Ok-Some.ensures.next)

pub returns-in-Ok-Some-clause-further : goal.returns-in-Ok-Some-clause-further
returns-in-Ok-Some-clause-further c = λ begins.
    let s = c.args.self.now in
    let on = line_further s.codec s.buffer.items c.in-Ok-Some.text c.decode.new.self c.decode.new.src.items (reading_starts s.codec s.buffer.items begins.0) (rw c.in-Ok-Some.field-0-is at c.in-Ok-Some.ensures.next) in
    ((on.0, begins.1), fewer_left s.reads (length s.buffer.items) (length c.decode.new.src.items) on.1)

pub returns-in-Ok-None-clause-line : goal.returns-in-Ok-None-clause-line
returns-in-Ok-None-clause-line c = λ remaining bytes left.
    let s = c.args.self.now in
    let none = rw c.in-Ok-None.field-0-is at c.in-Ok-None.ensures.next in
    let on = reading_resumes s.codec s.buffer.items c.decode.new.self c.decode.new.src.items (reading_starts s.codec s.buffer.items left.0) none.1 (rw c.in-Ok-None.field-0-is at c.in-Ok-None.ensures.settled) in
    (c.new_with_max_length-self.ensures, subst (λ zs. AreAheadIn zs remaining s.at_end bytes) (sym on.1) left.1)

pub returns-in-Ok-None-clause-further : goal.returns-in-Ok-None-clause-further
returns-in-Ok-None-clause-further c = λ begins.
    let s = c.args.self.now in
    let none = rw c.in-Ok-None.field-0-is at c.in-Ok-None.ensures.next in
    let on = reading_resumes s.codec s.buffer.items c.decode.new.self c.decode.new.src.items (reading_starts s.codec s.buffer.items begins.0) none.1 (rw c.in-Ok-None.field-0-is at c.in-Ok-None.ensures.settled) in
    ((c.new_with_max_length-self.ensures, begins.1), ap (λ (l : List ℕ). (MAX_READS - s.reads) * (PAGE + 1) + length l) on.1)

pub returns-in_ok-unread-in-Err-clause-line : goal.returns-in_ok-unread-in-Err-clause-line
returns-in_ok-unread-in-Err-clause-line c = λ remaining bytes left.
    let s = c.args.self.now in
    subst (λ (r : Result Line LinesFault). IsNextLine bytes r remaining s.at_end (IsLeftIn c.decode.new.self c.decode.new.src.items remaining s.at_end)) c.in_ok-unread-in-Err.was
    (unread_next bytes s.codec s.buffer.items remaining s.at_end c.in-Err.error c.decode.new.self c.decode.new.src.items c.unread.result (IsLeftIn c.decode.new.self c.decode.new.src.items remaining s.at_end)
    (reading_starts s.codec s.buffer.items left.0) left.1 c.in-Err.ensures.next (c.unread.ensures.memory, c.unread.ensures.other))

pub returns-in_err-unread-in-Err-clause-line : goal.returns-in_err-unread-in-Err-clause-line
returns-in_err-unread-in-Err-clause-line c = λ remaining bytes left.
    let s = c.args.self.now in
    let failed = err_from_is_err_and c.from_residual.result c.from_residual.ensures.1 in
    let Left = IsLeftIn c.decode.new.self c.decode.new.src.items remaining s.at_end in
    subst (λ (r : Result (Option Line) LinesFault). IsAtHand bytes r remaining s.at_end Left) (sym (failed.1 ∙ ap (λ f. Err f) failed.2))
    (subst (λ (r : Result Line LinesFault). IsNextLine bytes r remaining s.at_end Left) c.in_err-unread-in-Err.was
    (unread_next bytes s.codec s.buffer.items remaining s.at_end c.in-Err.error c.decode.new.self c.decode.new.src.items c.unread.result Left
    (reading_starts s.codec s.buffer.items left.0) left.1 c.in-Err.ensures.next (c.unread.ensures.memory, c.unread.ensures.other)))

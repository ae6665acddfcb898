use Rattle.std.proofs.Common.{◌≡◌, map, string_bytes, Err, Ok, Result, refl, sym, ap, subst, ◌∙◌, arith}
use Rattle.std.proofs.lemmas.Bool.Decides.{nat_tests}
use Rattle.std.proofs.lemmas.Result.{err_from_is_err_and}
use Rattle.text_lines.specs.declared.faults.LinesFault.{LinesFault}
use Rattle.text_lines.specs.declared.faults.LinesFault.TheVariants.{Memory}
use Rattle.text_lines.specs.declared.lines.Behind.{Behind}
use Rattle.text_lines.specs.cited.Batches.{AreNextLines, IsBehind}
use Rattle.text_lines.specs.cited.Reading.{HasFirstLine, IsLeft, IsNextLine, has_ended}
use Rattle.text_lines.proofs.AddedLines.{whole_added, whole_there}
use Rattle.text_lines.proofs.NextLine.{further_from}
use Rattle.text_lines.proofs.cited.FirstLines.{first_then}
use Rattle.text_lines.proofs.lines.Lines.add_lines.Goals as goal

pub returns-in_err-add_text-in-Whole-clause-lines : goal.returns-in_err-add_text-in-Whole-clause-lines
returns-in_err-add_text-in-Whole-clause-lines c = λ remaining bytes from.
    let l = c.loop-line in
    let failed = err_from_is_err_and c.from_residual.result c.from_residual.ensures.1 in
    let fault : c.from_residual.result ≡ Err Memory = failed.1 ∙ ap (λ f. Err f) (failed.2 ∙ c.in_err-add_text-in-Whole.ensures.faults) in
    let h = rw c.in-Whole.is at (l.invariant.lines remaining bytes from) in
    rw (fault, c.in_err-add_text-in-Whole.ensures.refused)
    (first_then bytes _ (has_ended l.self) _ (λ rest. HasFirstLine rest (λ line. Unit {0})) (λ rest next. whole_there rest c.in-Whole.text (has_ended l.self) remaining (IsLeft l.self remaining) next) h)

pub returns-then-len-ge-MOST_LINES-clause-lines : goal.returns-then-len-ge-MOST_LINES-clause-lines
returns-then-len-ge-MOST_LINES-clause-lines c = λ remaining bytes from.
    let l = c.loop-line in
    whole_added bytes l.texts.items c.add_text.new.texts.items c.in-Whole.text (has_ended l.self) (has_ended l.self) remaining (IsLeft l.self remaining) _ (rw c.in-Whole.is at (l.invariant.lines remaining bytes from))
    c.in_ok-add_text-in-Whole.ensures.added refl (λ rest left. left)

pub returns-in-None-clause-lines : goal.returns-in-None-clause-lines
returns-in-None-clause-lines c = λ remaining bytes from.
    let l = c.loop-line in
    whole_added bytes l.texts.items c.add_text.new.texts.items c.in-Whole.text (has_ended l.self) (has_ended c.at_hand.new.self) remaining (IsLeft l.self remaining) (IsLeft c.at_hand.new.self remaining)
    (rw c.in-Whole.is at (l.invariant.lines remaining bytes from))
    c.in_ok-add_text-in-Whole.ensures.added c.in_ok-next.ensures.ended (λ rest left. rw c.in-None.is at (c.in_ok-next.ensures.line remaining rest left))

pub returns-in_err-next-clause-lines : goal.returns-in_err-next-clause-lines
returns-in_err-next-clause-lines c = λ remaining bytes from.
    let l = c.loop-line in
    let failed = err_from_is_err_and c.from_residual-in_err-next.result c.from_residual-in_err-next.ensures.1 in
    let fault = c.in_err-next.field-0.0 in
    subst (λ (r : Result Behind LinesFault). AreNextLines bytes (map string_bytes c.add_text.new.texts.items) r remaining (has_ended c.at_hand.new.self) (IsLeft c.at_hand.new.self remaining)) (sym (failed.1 ∙ ap (λ f. Err f) failed.2))
    (whole_added bytes l.texts.items c.add_text.new.texts.items c.in-Whole.text (has_ended l.self) (has_ended c.at_hand.new.self) remaining (IsLeft l.self remaining)
    (IsBehind (Err fault) remaining (has_ended c.at_hand.new.self) (IsLeft c.at_hand.new.self remaining))
    (rw c.in-Whole.is at (l.invariant.lines remaining bytes from)) c.in_ok-add_text-in-Whole.ensures.added c.in_err-next.ensures.ended (λ rest left. c.in_err-next.ensures.line remaining rest left))

pub loop-line-preserved : goal.loop-line-preserved
loop-line-preserved c =
    let l = c.loop-line in
    let hand = c.in_ok-next.ensures in
    record {
      lines = λ remaining bytes from.
          whole_added bytes l.texts.items c.add_text.new.texts.items c.in-Whole.text (has_ended l.self) (has_ended c.at_hand.new.self) remaining (IsLeft l.self remaining)
          (λ rest. IsNextLine rest (Ok c.in-Some.next) remaining (has_ended c.at_hand.new.self) (IsLeft c.at_hand.new.self remaining))
          (rw c.in-Whole.is at (l.invariant.lines remaining bytes from)) c.in_ok-add_text-in-Whole.ensures.added hand.ended (λ rest left. rw c.in-Some.is at (hand.line remaining rest left));
      further = λ before from.
          let on = rw c.in-Whole.is at (l.invariant.further before from) in
          let less = on.1 in
          further_from before l.self (Ok c.in-Some.next) c.at_hand.new.self (omega (arith, less)) (rw c.in-Some.is at (hand.further on.0));
      reads = hand.count ∙ l.invariant.reads;
      ended = hand.ended ∙ l.invariant.ended;
      few = grind (arith, nat_tests, c.len.ensures, c.if-len-ge-MOST_LINES.false);
    }

use Rattle.std.proofs.Common.{◌≡◌, [], ◌∷◌, ◌++◌, Err, Some, ap, inl, inr, refl, subst, sym, ◌∙◌}
use Rattle.std.proofs.KnownBytes.{Appends-kept, Appends-nil, Appends-trans}
use Rattle.std.proofs.lemmas.Result.{err_from_is_err_and}
use Rattle.std.specs.Io.KnownBytes.{Appends}
use Rattle.rig_operator.specs.Asked.{Adds}
use Rattle.rig_operator.proofs.Adding.{adds_nothing}
use Rattle.rig_operator.proofs.Progress.{all_read, begins, lines_broken, operated_further, reads_further, reads_nothing, written_before}
use Rattle.rig_operator.specs.inner.Faults.{fault_of_lines}
use Rattle.text_lines.specs.cited.Reading.{IsLeft, has_ended}
use Rattle.rig_operator.proofs.operating.operate.Goals as goal

pub loop-init : goal.loop-init
loop-init g c =
    (tt, tt, ([], [], [], adds_nothing (g.G.Rig.asked c.args.rig.now), Appends-nil (g.W.Write.contents c.args.writer.now), (refl, refl), refl, (λ bytes left. (bytes, left, reads_nothing bytes (has_ended c.args.lines.now)))))

pub returns-in_err-line-clause-fault : goal.returns-in_err-line-clause-fault
returns-in_err-line-clause-fault g c =
    let left = g.I.Read.remaining in
    let contents = g.W.Write.contents in
    let so_far = c.loop.invariant.2 in
    let given = c.in_err-line.ensures in
    let failed = err_from_is_err_and c.from_residual.result c.from_residual.ensures.1 in
    let fault = c.in_err-line.field-0.0 in
    let written = Appends-kept (contents c.args.writer.now) (contents c.loop.writer) (contents c.next_line_uncounted.new.writer) so_far.2 so_far.4 given.written in
    rw (failed.1, failed.2) (
      so_far.0,
      (so_far.1, so_far.2, so_far.3, written_before (fault_of_lines fault) (Appends (contents c.args.writer.now) (contents c.next_line_uncounted.new.writer)) so_far.2 written, so_far.5),
      (λ bytes start.
          let come = so_far.7 bytes start in
          lines_broken bytes so_far.0 come.0 (has_ended c.loop.lines) come.2 (left c.next_line_uncounted.new.reader) (has_ended c.next_line_uncounted.new.self) (IsLeft c.next_line_uncounted.new.self (left c.next_line_uncounted.new.reader)) fault (λ is. given.no_read is) (given.line come.0 come.1)),
    )

pub returns-in_err-answer-in-Whole-clause-fault : goal.returns-in_err-answer-in-Whole-clause-fault
returns-in_err-answer-in-Whole-clause-fault g c =
    let contents = g.W.Write.contents in
    let asked = g.G.Rig.asked in
    let so_far = c.loop.invariant.2 in
    let given = c.in_ok-line.ensures in
    let text = c.as_str.result.now in
    let failed = err_from_is_err_and c.from_residual-in_err-answer-in-Whole.result c.from_residual-in_err-answer-in-Whole.ensures.1 in
    let unwritten = c.in_err-answer-in-Whole.ensures.fault in
    let more = operated_further (asked c.args.rig.now) (asked c.loop.rig) (asked c.answer.new.rig) (contents c.args.writer.now) (contents c.loop.writer) (contents c.next_line_uncounted.new.writer) c.loop.number c.answer.new.number text _ so_far given.written
    (λ said. Unit {0}) (λ said. Unit {0}) (λ said reply p q. tt) unwritten.1 in
    rw (failed.1, failed.2, unwritten.0) (
      so_far.0 ++ text ∷ [],
      (more.0, more.1, more.2, tt, more.4),
      (λ bytes left.
          let come = so_far.7 bytes left in
          let next = rw c.in-Whole.is at (given.line come.0 come.1) in
          let read = reads_further bytes so_far.0 come.0 (has_ended c.loop.lines) come.2 next.0 next.1 text (has_ended c.next_line_uncounted.new.self) next.2 given.stays_ended (next.3 ∙ ap (λ t. Some t) (sym c.as_str.ensures.value)) in
          begins bytes (so_far.0 ++ text ∷ []) next.1 (has_ended c.next_line_uncounted.new.self) read (λ lines. Unit {0}) tt),
    )

pub returns-then-branch-clause-ended : goal.returns-then-branch-clause-ended
returns-then-branch-clause-ended g c =
    let contents = g.W.Write.contents in
    let asked = g.G.Rig.asked in
    let so_far = c.loop.invariant.2 in
    let given = c.in_ok-line.ensures in
    let text = c.as_str.result.now in
    let halted = rw c.if-branch.true at c.in_ok-answer-in-Whole.ensures.answered in
    let asks = subst (λ rig. Adds (asked c.args.rig.now) (asked rig) so_far.1) (sym halted.1) so_far.3 in
    let written = Appends-kept (contents c.args.writer.now) (contents c.loop.writer) (contents c.next_line_uncounted.new.writer) so_far.2 so_far.4 given.written in
    let writes = subst (λ writer. Appends (contents c.args.writer.now) (contents writer) so_far.2) (sym halted.2) written in (
      so_far.0,
      (so_far.1, so_far.2, asks, writes, so_far.5),
      (λ bytes left.
          let come = so_far.7 bytes left in
          let next = rw c.in-Whole.is at (given.line come.0 come.1) in
          begins bytes so_far.0 come.0 (has_ended c.loop.lines) come.2 _ (next.0, text, next.1, next.2.0, next.3 ∙ ap (λ t. Some t) (sym c.as_str.ensures.value), halted.0, next.4)),
    )

pub loop-preserved : goal.loop-preserved
loop-preserved g c =
    let contents = g.W.Write.contents in
    let asked = g.G.Rig.asked in
    let so_far = c.loop.invariant.2 in
    let given = c.in_ok-line.ensures in
    let text = c.as_str.result.now in
    let one = rw c.if-branch.false at c.in_ok-answer-in-Whole.ensures.answered in
    let more = operated_further (asked c.args.rig.now) (asked c.loop.rig) (asked c.answer.new.rig) (contents c.args.writer.now) (contents c.loop.writer) (contents c.next_line_uncounted.new.writer) c.loop.number c.answer.new.number text _ so_far given.written
    (Appends (contents c.next_line_uncounted.new.writer) (contents c.answer.new.writer)) (Appends (contents c.args.writer.now) (contents c.answer.new.writer))
    (λ said reply p q. Appends-trans (contents c.args.writer.now) (contents c.next_line_uncounted.new.writer) (contents c.answer.new.writer) said reply p q) one in (
      tt,
      tt,
      (
        so_far.0 ++ text ∷ [],
        more.0,
        more.1,
        more.2,
        more.3,
        more.4,
        more.5,
        (λ bytes left.
            let come = so_far.7 bytes left in
            let next = rw c.in-Whole.is at (given.line come.0 come.1) in
            (next.1, next.4, reads_further bytes so_far.0 come.0 (has_ended c.loop.lines) come.2 next.0 next.1 text (has_ended c.next_line_uncounted.new.self) next.2 given.stays_ended (next.3 ∙ ap (λ t. Some t) (sym c.as_str.ensures.value)))),
      ),
    )

pub returns-in-Bad-clause-ended : goal.returns-in-Bad-clause-ended
returns-in-Bad-clause-ended g c =
    let contents = g.W.Write.contents in
    let so_far = c.loop.invariant.2 in
    let given = c.in_ok-line.ensures in
    let written = Appends-kept (contents c.args.writer.now) (contents c.loop.writer) (contents c.next_line_uncounted.new.writer) so_far.2 so_far.4 given.written in (
      so_far.0,
      (so_far.1, so_far.2, so_far.3, written, so_far.5),
      (λ bytes left.
          let come = so_far.7 bytes left in
          let next = rw c.in-Bad.is at (given.line come.0 come.1) in
          inr (begins bytes so_far.0 come.0 (has_ended c.loop.lines) come.2 _ (next.0, next.1, next.2, next.3))),
    )

pub returns-in-End-clause-ended : goal.returns-in-End-clause-ended
returns-in-End-clause-ended g c =
    let contents = g.W.Write.contents in
    let so_far = c.loop.invariant.2 in
    let given = c.in_ok-line.ensures in
    let written = Appends-kept (contents c.args.writer.now) (contents c.loop.writer) (contents c.next_line_uncounted.new.writer) so_far.2 so_far.4 given.written in (
      so_far.0,
      (so_far.1, so_far.2, so_far.3, written, so_far.5),
      (λ bytes left.
          let come = so_far.7 bytes left in
          let next = rw c.in-End.is at (given.line come.0 come.1) in
          inl (all_read bytes so_far.0 come.0 (has_ended c.loop.lines) come.2 next.0, next.1)),
    )

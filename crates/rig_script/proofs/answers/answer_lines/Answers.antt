use Rattle.std.proofs.Common.{rules, ◌∷◌, ◌++◌, [], ℕ, List, Some, Ok, Err, IfErr, Result, refl, sym, ap, subst, inl, inr, ◌∙◌}
use Rattle.std.proofs.lemmas.Result.{err_from_is_err_and}
use Rattle.std.specs.Io.KnownBytes.{Appends}
use Rattle.rig_model.specs.TextLines.{cut}
use Rattle.rig_model.specs.Script.{reply_to_line, past_after, past_behind}
use Rattle.rig_script.specs.declared.answers.Ending.{Ending}
use Rattle.rig_script.specs.declared.answers.Ending.TheVariants.{Input, BadLine}
use Rattle.rig_script.specs.declared.faults.ScriptFault.{ScriptFault}
use Rattle.rig_script.specs.cited.Past.{ForEachPastReading}
use Rattle.rig_script.specs.BrokenOff.{AreBrokenOff}
use Rattle.rig_script.proofs.GivenTexts.{all_texts, given_at_bye, given_at_end, given_further, texts_before}
use Rattle.rig_script.proofs.BrokenScript.{lines_broken, reply_broken, few_read, lines_turns, same_fault, unanswered_no_turns}
use Rattle.text_lines.specs.cited.Reading.{IsLeft, has_ended, reads_of}
use Rattle.text_lines.proofs.cited.AnsweredLines.{come_nowhere, come_further, all_written, state_at_end, bye_written, state_at_bye, texts_further, bad_is_no_text, if_known, all_known, kept_on}
use Rattle.text_lines.proofs.cited.CountedReads.{both_counted}
use Rattle.rig_script.proofs.answers.answer_lines.Goals as goal

pub loop-lines-init : goal.loop-lines-init
loop-lines-init g c =
    let left = g.R.Read.remaining c.args.reader.now in
    record {
      begins = c.new-lines.ensures.begins;
      counted = search rules;
      texts = all_known left (λ bytes is. (bytes, subst (λ known. IsLeft c.new-lines.result known bytes) (sym is) (c.new-lines.ensures.left bytes), (λ all. all, λ all. all)));
      answering = all_known left (λ bytes is setting texts past stands. (
        bytes,
        subst (λ known. IsLeft c.new-lines.result known bytes) (sym is) (c.new-lines.ensures.left bytes),
        past,
        texts,
        stands,
        come_nowhere (reply_to_line setting) (past_behind setting) past bytes (g.W.Write.contents c.args.writer.now) (has_ended c.new-lines.result),
        refl,
      ));
    }

pub returns-in-Bad-clause-written : goal.returns-in-Bad-clause-written
returns-in-Bad-clause-written g c =
    let l = c.loop-lines in
    if_known (g.R.Read.remaining c.args.reader.now) _ _ l.invariant.answering (λ bytes far setting texts past stands.
    let h = far setting texts past stands in
    let next = rw c.in-Bad.is at (c.in_ok-line.ensures.line h.0 h.1) in
    bye_written (reply_to_line setting) (past_behind setting) past bytes (g.W.Write.contents c.args.writer.now) h.2 h.0 (has_ended l.lines) (g.W.Write.contents l.writer) h.5
    (g.W.Write.contents c.next_line.new.writer) c.in_ok-line.ensures.written (g.W.Write.contents c.say_bye.new.writer) next c.in_ok-say_bye-in-Bad.ensures.written)

pub returns-in-Bad-clause-state : goal.returns-in-Bad-clause-state
returns-in-Bad-clause-state g c =
    let l = c.loop-lines in
    if_known (g.R.Read.remaining c.args.reader.now) _ _ l.invariant.answering (λ bytes far setting texts past stands.
    let h = far setting texts past stands in
    let next = rw c.in-Bad.is at (c.in_ok-line.ensures.line h.0 h.1) in
    subst (λ (ts : List (List ℕ)). g.A.Answers.is_after l.answers setting ts (past_after setting past (cut bytes))) (given_at_bye texts (cut bytes) (cut h.0) h.3 h.6 next.0 next.1 next.2 next.3)
    (subst (g.A.Answers.is_after l.answers setting h.3) (sym (state_at_bye (reply_to_line setting) (past_behind setting) past bytes (g.W.Write.contents c.args.writer.now) h.2 h.0 (has_ended l.lines) (g.W.Write.contents l.writer) h.5
    (g.W.Write.contents c.next_line.new.writer) c.in_ok-line.ensures.written next)) h.4))

pub returns-in-Bad-clause-bad_line : goal.returns-in-Bad-clause-bad_line
returns-in-Bad-clause-bad_line g c = λ is.
    if_known (g.R.Read.remaining c.args.reader.now) _ _ c.loop-lines.invariant.texts (λ bytes h.
    let next = rw c.in-Bad.is at (c.in_ok-line.ensures.line h.0 h.1) in
    bad_is_no_text (cut bytes) (cut h.0) h.2.0 next.0 next.1 next.2 next.3)

pub returns-in-Bad-clause-reads : goal.returns-in-Bad-clause-reads
returns-in-Bad-clause-reads g c =
    let left = g.R.Read.remaining in
    let l = c.loop-lines in
    few_read (Ok BadLine) (left c.args.reader.now) (left c.next_line.new.reader) (reads_of c.next_line.new.self)
    (both_counted 0 (reads_of l.lines) (reads_of c.next_line.new.self) (left c.args.reader.now) (left l.reader) (left c.next_line.new.reader) l.invariant.counted c.in_ok-line.ensures.count)
    (c.in_ok-line.ensures.bound l.invariant.begins.1) (λ wrong. absurd (cc))

pub returns-in-End-clause-written : goal.returns-in-End-clause-written
returns-in-End-clause-written g c =
    let l = c.loop-lines in
    if_known (g.R.Read.remaining c.args.reader.now) _ _ l.invariant.answering (λ bytes far setting texts past stands.
    let h = far setting texts past stands in
    let next = rw c.in-End.is at (c.in_ok-line.ensures.line h.0 h.1) in
    all_written (reply_to_line setting) (past_behind setting) past bytes (g.W.Write.contents c.args.writer.now) h.2 h.0 (has_ended l.lines) (g.W.Write.contents l.writer) h.5
    (g.W.Write.contents c.flush.new.writer) (kept_on (g.W.Write.contents l.writer) (g.W.Write.contents c.next_line.new.writer) (g.W.Write.contents c.flush.new.writer) c.in_ok-line.ensures.written c.in_ok-flush-in-End.ensures.kept) next.0)

pub returns-in-End-clause-state : goal.returns-in-End-clause-state
returns-in-End-clause-state g c =
    let l = c.loop-lines in
    if_known (g.R.Read.remaining c.args.reader.now) _ _ l.invariant.answering (λ bytes far setting texts past stands.
    let h = far setting texts past stands in
    let next = rw c.in-End.is at (c.in_ok-line.ensures.line h.0 h.1) in
    subst (λ (ts : List (List ℕ)). g.A.Answers.is_after l.answers setting ts (past_after setting past (cut bytes))) (given_at_end texts (cut bytes) (cut h.0) h.3 h.6 (ap cut next.0))
    (subst (g.A.Answers.is_after l.answers setting h.3) (sym (state_at_end (reply_to_line setting) (past_behind setting) past bytes (g.W.Write.contents c.args.writer.now) h.2 h.0 (has_ended l.lines) (g.W.Write.contents l.writer) h.5
    (g.W.Write.contents c.next_line.new.writer) c.in_ok-line.ensures.written next.0)) h.4))

pub returns-in-End-clause-input : goal.returns-in-End-clause-input
returns-in-End-clause-input g c = λ is.
    if_known (g.R.Read.remaining c.args.reader.now) _ _ c.loop-lines.invariant.texts (λ bytes h.
    let next = rw c.in-End.is at (c.in_ok-line.ensures.line h.0 h.1) in
    (all_texts (cut bytes) (cut h.0) h.2.1 (ap cut next.0), next.1))

pub returns-in-End-clause-reads : goal.returns-in-End-clause-reads
returns-in-End-clause-reads g c =
    let left = g.R.Read.remaining in
    let l = c.loop-lines in
    few_read (Ok Input) (left c.args.reader.now) (left c.next_line.new.reader) (reads_of c.next_line.new.self)
    (both_counted 0 (reads_of l.lines) (reads_of c.next_line.new.self) (left c.args.reader.now) (left l.reader) (left c.next_line.new.reader) l.invariant.counted c.in_ok-line.ensures.count)
    (c.in_ok-line.ensures.bound l.invariant.begins.1) (λ wrong. absurd (cc))

pub returns-in_err-line-clause-fault : goal.returns-in_err-line-clause-fault
returns-in_err-line-clause-fault g c =
    let l = c.loop-lines in
    let left = g.R.Read.remaining in
    let contents = g.W.Write.contents in
    let failed = err_from_is_err_and c.from_residual.result c.from_residual.ensures.1 in
    let fault = c.in_err-line.field-0.0 in
    subst (λ (r : Result Ending ScriptFault). IfErr r (λ f. ForEachPastReading (g.A.Answers.is_after c.args.answers.now) (left c.args.reader.now)
    (λ setting texts past bytes. AreBrokenOff (left c.next_line.new.reader) (Appends (contents c.args.writer.now) (contents c.next_line.new.writer)) f setting past bytes))) (sym failed.1)
    (if_known (left c.args.reader.now) _ _ l.invariant.answering (λ bytes far setting texts past stands.
    let h = far setting texts past stands in
    subst (λ f. AreBrokenOff (left c.next_line.new.reader) (Appends (contents c.args.writer.now) (contents c.next_line.new.writer)) f setting past bytes) (sym failed.2)
    (lines_broken setting past bytes (contents c.args.writer.now) h.2 h.0 (has_ended l.lines) (contents l.writer) h.5
    (contents c.next_line.new.writer) c.in_err-line.ensures.written (left c.next_line.new.reader) fault (has_ended c.next_line.new.self) _ (λ is. c.in_err-line.ensures.no_read is) (c.in_err-line.ensures.line h.0 h.1))))

pub returns-in_err-line-clause-reads : goal.returns-in_err-line-clause-reads
returns-in_err-line-clause-reads g c =
    let left = g.R.Read.remaining in
    let l = c.loop-lines in
    let failed = err_from_is_err_and c.from_residual.result c.from_residual.ensures.1 in
    few_read c.from_residual.result (left c.args.reader.now) (left c.next_line.new.reader) (reads_of c.next_line.new.self)
    (both_counted 0 (reads_of l.lines) (reads_of c.next_line.new.self) (left c.args.reader.now) (left l.reader) (left c.next_line.new.reader) l.invariant.counted c.in_err-line.ensures.count)
    (c.in_err-line.ensures.bound l.invariant.begins.1)
    (λ is. c.in_err-line.ensures.turns (ap (λ f. Err f) (lines_turns c.in_err-line.field-0.0 (sym failed.2 ∙ same_fault c.from_residual.result failed.0 failed.1 is))))

pub returns-in_err-answer_line-in-Whole-clause-fault : goal.returns-in_err-answer_line-in-Whole-clause-fault
returns-in_err-answer_line-in-Whole-clause-fault g c =
    let l = c.loop-lines in
    let left = g.R.Read.remaining in
    let contents = g.W.Write.contents in
    let given = c.in_ok-line.ensures in
    let failed = err_from_is_err_and c.from_residual-in_err-answer_line-in-Whole.result c.from_residual-in_err-answer_line-in-Whole.ensures.1 in
    let fault = c.in_err-answer_line-in-Whole.field-0.0 in
    subst (λ (r : Result Ending ScriptFault). IfErr r (λ f. ForEachPastReading (g.A.Answers.is_after c.args.answers.now) (left c.args.reader.now)
    (λ setting texts past bytes. AreBrokenOff (left c.next_line.new.reader) (Appends (contents c.args.writer.now) (contents c.answer_line.new.writer)) f setting past bytes))) (sym (failed.1 ∙ ap (λ f. Err f) failed.2))
    (if_known (left c.args.reader.now) _ _ l.invariant.answering (λ bytes far setting texts past stands.
    let h = far setting texts past stands in
    let next = rw c.in-Whole.is at (given.line h.0 h.1) in
    reply_broken setting past bytes (contents c.args.writer.now) h.2 h.0 (has_ended l.lines) (contents l.writer) h.5
    (contents c.next_line.new.writer) given.written (left c.next_line.new.reader) fault next.0 next.1 c.as_str.result.now (has_ended c.next_line.new.self) (contents c.answer_line.new.writer) next.2
    (next.3 ∙ ap (λ t. Some t) (sym c.as_str.ensures.value)) (elim c.in_err-answer_line-in-Whole.ensures.fault [ inl failed ↦ inl failed | inr memory ↦ inr (memory.0, memory.1 setting h.3 h.2 h.4) ])))

pub returns-in_err-answer_line-in-Whole-clause-reads : goal.returns-in_err-answer_line-in-Whole-clause-reads
returns-in_err-answer_line-in-Whole-clause-reads g c =
    let left = g.R.Read.remaining in
    let l = c.loop-lines in
    let failed = err_from_is_err_and c.from_residual-in_err-answer_line-in-Whole.result c.from_residual-in_err-answer_line-in-Whole.ensures.1 in
    few_read c.from_residual-in_err-answer_line-in-Whole.result (left c.args.reader.now) (left c.next_line.new.reader) (reads_of c.next_line.new.self)
    (both_counted 0 (reads_of l.lines) (reads_of c.next_line.new.self) (left c.args.reader.now) (left l.reader) (left c.next_line.new.reader) l.invariant.counted c.in_ok-line.ensures.count)
    (c.in_ok-line.ensures.bound l.invariant.begins.1)
    (λ is. absurd (unanswered_no_turns c.in_err-answer_line-in-Whole.field-0.0 c.in_err-answer_line-in-Whole.ensures.fault (sym failed.2 ∙ same_fault c.from_residual-in_err-answer_line-in-Whole.result failed.0 failed.1 is)))

pub returns-in_err-say_bye-in-Bad-clause-reads : goal.returns-in_err-say_bye-in-Bad-clause-reads
returns-in_err-say_bye-in-Bad-clause-reads g c =
    let left = g.R.Read.remaining in
    let l = c.loop-lines in
    let failed = err_from_is_err_and c.from_residual-in_err-say_bye-in-Bad.result c.from_residual-in_err-say_bye-in-Bad.ensures.1 in
    few_read c.from_residual-in_err-say_bye-in-Bad.result (left c.args.reader.now) (left c.next_line.new.reader) (reads_of c.next_line.new.self)
    (both_counted 0 (reads_of l.lines) (reads_of c.next_line.new.self) (left c.args.reader.now) (left l.reader) (left c.next_line.new.reader) l.invariant.counted c.in_ok-line.ensures.count)
    (c.in_ok-line.ensures.bound l.invariant.begins.1)
    (λ is. let wrong = sym c.in_err-say_bye-in-Bad.ensures.fault ∙ (sym failed.2 ∙ same_fault c.from_residual-in_err-say_bye-in-Bad.result failed.0 failed.1 is) in absurd (cc))

pub returns-in_err-flush-in-End-clause-reads : goal.returns-in_err-flush-in-End-clause-reads
returns-in_err-flush-in-End-clause-reads g c =
    let left = g.R.Read.remaining in
    let l = c.loop-lines in
    let failed = err_from_is_err_and c.from_residual-in_err-flush-in-End.result c.from_residual-in_err-flush-in-End.ensures.1 in
    few_read c.from_residual-in_err-flush-in-End.result (left c.args.reader.now) (left c.next_line.new.reader) (reads_of c.next_line.new.self)
    (both_counted 0 (reads_of l.lines) (reads_of c.next_line.new.self) (left c.args.reader.now) (left l.reader) (left c.next_line.new.reader) l.invariant.counted c.in_ok-line.ensures.count)
    (c.in_ok-line.ensures.bound l.invariant.begins.1)
    (λ is. let wrong = sym c.in_err-flush-in-End.ensures.fault ∙ (sym failed.2 ∙ same_fault c.from_residual-in_err-flush-in-End.result failed.0 failed.1 is) in absurd (cc))

pub loop-lines-preserved : goal.loop-lines-preserved
loop-lines-preserved g c =
    let contents = g.W.Write.contents in
    let left = g.R.Read.remaining in
    let l = c.loop-lines in
    let given = c.in_ok-line.ensures in
    let done = c.in_ok-answer_line-in-Whole.ensures in
    let on = rw c.in-Whole.is at (given.further l.invariant.begins) in
    record {
      begins = on.0;
      counted = both_counted 0 (reads_of l.lines) (reads_of c.next_line.new.self) (left c.args.reader.now) (left l.reader) (left c.next_line.new.reader) l.invariant.counted given.count;
      texts = if_known (left c.args.reader.now) _ _ l.invariant.texts (λ bytes h.
          let next = rw c.in-Whole.is at (given.line h.0 h.1) in (
            next.1,
            next.4,
            (texts_further (cut bytes) (cut h.0) h.2.0 next.0 (cut next.1) next.2.0, texts_before (cut bytes) (cut h.0) h.2.1 next.0 (cut next.1) next.2.0 c.as_str.result.now (next.3 ∙ ap (λ t. Some t) (sym c.as_str.ensures.value))),
          ));
      answering = if_known (left c.args.reader.now) _ _ l.invariant.answering (λ bytes far setting texts past stands.
          let h = far setting texts past stands in
          let next = rw c.in-Whole.is at (given.line h.0 h.1) in
          let now = h.2 in
          let text = c.as_str.result.now in (
            next.1,
            next.4,
            past_behind setting now text,
            h.3 ++ text ∷ [],
            done.state setting h.3 now h.4,
            come_further (reply_to_line setting) (past_behind setting) past bytes (contents c.args.writer.now) now h.0 (has_ended l.lines) (contents l.writer) h.5
                (contents c.next_line.new.writer) given.written next.0 next.1 text (past_behind setting now text) (has_ended c.next_line.new.self) (contents c.answer_line.new.writer) next.2 given.stays_ended
                (next.3 ∙ ap (λ t. Some t) (sym c.as_str.ensures.value)) refl (done.written setting h.3 now h.4),
            given_further texts (cut bytes) (cut h.0) h.3 h.6 next.0 (cut next.1) text next.2.0 (next.3 ∙ ap (λ t. Some t) (sym c.as_str.ensures.value)),
          ));
    }

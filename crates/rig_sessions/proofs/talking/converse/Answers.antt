use Rattle.std.proofs.Common.{rules, ◌≡◌, ◌≢◌, ℕ, List, Option, String, Global, map, string_bytes, Some, Ok, Err, IfErr, IfSome, Result, refl, sym, ap, subst, inl, inr, ◌∙◌}
use Rattle.std.proofs.lemmas.Result.{err_from_is_err_and}
use Rattle.std.specs.Io.KnownBytes.{Appends}
use Rattle.rig_model.specs.Sessions.{ended}
use Rattle.rig_sessions.specs.inner.Steps.{SessionValue}
use Rattle.rig_sessions.specs.Talks.{IsCutOff}
use Rattle.rig_sessions.specs.declared.faults.TalkFault.{TalkFault}
use Rattle.rig_sessions.specs.declared.faults.TalkFault.TheVariants.{Write}
use Rattle.rig_sessions.proofs.Answering.{unsaid}
use Rattle.rig_sessions.proofs.SoFar.{IsOn, all_taken, bad_taken, calls_both, end_cut, few_read, kept_here, lines_cut, lines_turns, on_further, on_nowhere, batch_on, down_to, over_into, same_fault, texts_cut, unanswered_calls, unanswered_no_turns, write_no_turns}
use Rattle.rig_sessions.specs.inner.Answered.{AreAnswered, AreUnanswered}
use Rattle.text_lines.specs.cited.Batches.{IsBehind}
use Rattle.text_lines.specs.declared.lines.Behind.TheVariants.{More, Bad, End}
use Rattle.text_lines.specs.cited.Reading.{IsLeft, has_ended, reads_of}
use Rattle.text_lines.proofs.cited.AnsweredLines.{all_known, if_known, kept_on, on_ok, on_ok_then}
use Rattle.text_lines.proofs.cited.CountedReads.{both_counted}
use Rattle.text_lines.proofs.cited.FirstLines.{behind_first}
use Rattle.rig_sessions.proofs.talking.converse.Goals as goal

pub loop-texts-init : goal.loop-texts-init
loop-texts-init g c =
    let left = g.I.Read.remaining c.args.reader.now in
    record {
      begins = c.new-lines.ensures.begins;
      counted = search rules;
      pass = search rules;
      seat = refl;
      config = search rules;
      waiting = c.new-work.ensures;
      alive = search rules;
      on = all_known left (λ bytes is. (
        bytes,
        subst (λ known. IsLeft c.new-lines.result known bytes) (sym is) (c.new-lines.ensures.left bytes),
        subst (λ s. IsOn c.args.config.now bytes bytes (has_ended c.new-lines.result) s c.args.pass.now c.args.pass.now (g.W.Write.contents c.args.writer.now) (g.W.Write.contents c.args.writer.now))
            (sym (ap (λ (x : SessionValue). x.state) c.new-session.ensures)) (on_nowhere c.args.config.now bytes (has_ended c.new-lines.result) c.args.pass.now (g.W.Write.contents c.args.writer.now)),
      ));
    }

pub returns-in_err-answer_all-clause-calls : goal.returns-in_err-answer_all-clause-calls
returns-in_err-answer_all-clause-calls g c =
    let l = c.loop-texts in
    calls_both c.args.pass.now l.pass c.answer_all.new.pass l.invariant.pass
    (unanswered_calls l.session.config l.session.state (map string_bytes c.deref.result.now) l.pass c.answer_all.new.pass c.in_err-answer_all.field-0.0 c.in_err-answer_all.ensures.fault)

pub returns-in_err-answer_all-clause-fault : goal.returns-in_err-answer_all-clause-fault
returns-in_err-answer_all-clause-fault g c =
    let l = c.loop-texts in
    let left = g.I.Read.remaining in
    let contents = g.W.Write.contents in
    let next = c.next_lines-behind in
    let texts = map string_bytes next.new.texts.items in
    let lines : map string_bytes c.deref.result.now ≡ texts = ap (λ (xs : List (String Global)). map string_bytes xs) c.deref.ensures.value in
    let failed = err_from_is_err_and c.from_residual.result c.from_residual.ensures.1 in
    let fault = c.in_err-answer_all.field-0.0 in
    let Written = Appends (contents c.args.writer.now) (contents c.answer_all.new.writer) in
    let Cut = λ (f : TalkFault). IfSome (left c.args.reader.now) (λ bytes. IsCutOff c.args.config.now c.args.pass.now c.answer_all.new.pass Written (left next.new.reader) bytes f) in
    let unanswered : AreUnanswered c.args.config.now l.session.state texts l.pass c.answer_all.new.pass fault =
    subst (λ xs. AreUnanswered c.args.config.now l.session.state xs l.pass c.answer_all.new.pass fault) lines
    (subst (λ config. AreUnanswered config l.session.state (map string_bytes c.deref.result.now) l.pass c.answer_all.new.pass fault) l.invariant.config c.in_err-answer_all.ensures.fault) in
    subst (λ (r : Result Unit TalkFault). IfErr r Cut) (sym (failed.1 ∙ ap (λ f. Err f) failed.2))
    (if_known (left c.args.reader.now) _ _ l.invariant.on (λ bytes h.
    texts_cut c.args.config.now bytes h.0 (has_ended l.lines) l.session.state c.args.pass.now l.pass (contents c.args.writer.now) (contents l.writer) h.2 c.answer_all.new.pass texts (has_ended next.new.self)
    (IsBehind next.result (left next.new.reader) (has_ended next.new.self) (IsLeft next.new.self (left next.new.reader))) (next.ensures.lines h.0 h.1) next.ensures.stays_ended fault Written (left next.new.reader) unanswered))

pub returns-in_err-answer_all-clause-reads : goal.returns-in_err-answer_all-clause-reads
returns-in_err-answer_all-clause-reads g c =
    let left = g.I.Read.remaining in
    let l = c.loop-texts in
    let next = c.next_lines-behind in
    let failed = err_from_is_err_and c.from_residual.result c.from_residual.ensures.1 in
    few_read c.from_residual.result (left c.args.reader.now) (left next.new.reader) (reads_of next.new.self)
    (both_counted 0 (reads_of l.lines) (reads_of next.new.self) (left c.args.reader.now) (left l.reader) (left next.new.reader) l.invariant.counted next.ensures.count)
    (next.ensures.bound l.invariant.begins.1)
    (λ is. absurd (unanswered_no_turns l.session.config l.session.state (map string_bytes c.deref.result.now) l.pass c.answer_all.new.pass c.in_err-answer_all.field-0.0 c.in_err-answer_all.ensures.fault
    (sym failed.2 ∙ same_fault c.from_residual.result failed.0 failed.1 is)))

pub returns-then-has_ended-clause-ok : goal.returns-then-has_ended-clause-ok
returns-then-has_ended-clause-ok g c =
    let l = c.loop-texts in
    let left = g.I.Read.remaining in
    let contents = g.W.Write.contents in
    let next = c.next_lines-behind in
    let texts = map string_bytes next.new.texts.items in
    let lines : map string_bytes c.deref.result.now ≡ texts = ap (λ (xs : List (String Global)). map string_bytes xs) c.deref.ensures.value in
    let answered : AreAnswered c.args.config.now l.session.state texts c.answer_all.new.session.state l.pass c.answer_all.new.pass (Appends (contents next.new.writer) (contents c.answer_all.new.writer)) =
    subst (λ xs. AreAnswered c.args.config.now l.session.state xs c.answer_all.new.session.state l.pass c.answer_all.new.pass (Appends (contents next.new.writer) (contents c.answer_all.new.writer))) lines
    (subst (λ config. AreAnswered config l.session.state (map string_bytes c.deref.result.now) c.answer_all.new.session.state l.pass c.answer_all.new.pass (Appends (contents next.new.writer) (contents c.answer_all.new.writer))) l.invariant.config
    c.in_ok-answer_all.ensures.ok) in
    let is_over : c.answer_all.new.session.state ≡ ended = c.has_ended.ensures.0 c.if-has_ended.true in
    on_ok c.flush.result _ (
    if_known (left c.args.reader.now) _ _ l.invariant.on (λ bytes h.
    let at = batch_on c.args.config.now bytes h.0 (has_ended l.lines) l.session.state c.args.pass.now l.pass (contents c.args.writer.now) (contents l.writer) (contents next.new.writer) (contents c.answer_all.new.writer) h.2 next.ensures.written
    texts (has_ended next.new.self) (IsBehind next.result (left next.new.reader) (has_ended next.new.self) (IsLeft next.new.self (left next.new.reader))) (next.ensures.lines h.0 h.1) next.ensures.stays_ended c.answer_all.new.session.state c.answer_all.new.pass answered in
    let t = over_into c.args.config.now bytes at.0 (has_ended next.new.self) c.answer_all.new.session.state c.args.pass.now c.answer_all.new.pass (contents c.args.writer.now) (contents c.answer_all.new.writer) at.2
    (contents c.flush.new.writer) c.flush.ensures.kept is_over in
    (t.0, t.1, inr t.2)))

pub returns-then-has_ended-clause-fault : goal.returns-then-has_ended-clause-fault
returns-then-has_ended-clause-fault g c =
    let l = c.loop-texts in
    let left = g.I.Read.remaining in
    let contents = g.W.Write.contents in
    let next = c.next_lines-behind in
    let texts = map string_bytes next.new.texts.items in
    let lines : map string_bytes c.deref.result.now ≡ texts = ap (λ (xs : List (String Global)). map string_bytes xs) c.deref.ensures.value in
    let answered : AreAnswered c.args.config.now l.session.state texts c.answer_all.new.session.state l.pass c.answer_all.new.pass (Appends (contents next.new.writer) (contents c.answer_all.new.writer)) =
    subst (λ xs. AreAnswered c.args.config.now l.session.state xs c.answer_all.new.session.state l.pass c.answer_all.new.pass (Appends (contents next.new.writer) (contents c.answer_all.new.writer))) lines
    (subst (λ config. AreAnswered config l.session.state (map string_bytes c.deref.result.now) c.answer_all.new.session.state l.pass c.answer_all.new.pass (Appends (contents next.new.writer) (contents c.answer_all.new.writer))) l.invariant.config
    c.in_ok-answer_all.ensures.ok) in
    let Written = Appends (contents c.args.writer.now) (contents c.flush.new.writer) in
    unsaid c.flush.result (λ f. IfSome (left c.args.reader.now) (λ bytes. IsCutOff c.args.config.now c.args.pass.now c.answer_all.new.pass Written (left next.new.reader) bytes f)) c.flush.ensures.fault
    (if_known (left c.args.reader.now) _ _ l.invariant.on (λ bytes h.
    let at = batch_on c.args.config.now bytes h.0 (has_ended l.lines) l.session.state c.args.pass.now l.pass (contents c.args.writer.now) (contents l.writer) (contents next.new.writer) (contents c.answer_all.new.writer) h.2 next.ensures.written
    texts (has_ended next.new.self) (IsBehind next.result (left next.new.reader) (has_ended next.new.self) (IsLeft next.new.self (left next.new.reader))) (next.ensures.lines h.0 h.1) next.ensures.stays_ended c.answer_all.new.session.state c.answer_all.new.pass answered in
    down_to c.args.config.now bytes at.0 (has_ended next.new.self) c.answer_all.new.session.state c.args.pass.now c.answer_all.new.pass (contents c.args.writer.now) (contents c.answer_all.new.writer) at.2 (contents c.answer_all.new.writer)
    (kept_here (contents c.answer_all.new.writer))))

pub returns-then-has_ended-clause-reads : goal.returns-then-has_ended-clause-reads
returns-then-has_ended-clause-reads g c =
    let left = g.I.Read.remaining in
    let l = c.loop-texts in
    let next = c.next_lines-behind in
    few_read c.flush.result (left c.args.reader.now) (left next.new.reader) (reads_of next.new.self)
    (both_counted 0 (reads_of l.lines) (reads_of next.new.self) (left c.args.reader.now) (left l.reader) (left next.new.reader) l.invariant.counted next.ensures.count)
    (next.ensures.bound l.invariant.begins.1) (λ is. absurd (write_no_turns c.flush.result c.flush.ensures.fault is))

pub returns-in_err-behind-clause-fault : goal.returns-in_err-behind-clause-fault
returns-in_err-behind-clause-fault g c =
    let l = c.loop-texts in
    let left = g.I.Read.remaining in
    let contents = g.W.Write.contents in
    let next = c.next_lines-behind in
    let texts = map string_bytes next.new.texts.items in
    let lines : map string_bytes c.deref.result.now ≡ texts = ap (λ (xs : List (String Global)). map string_bytes xs) c.deref.ensures.value in
    let answered : AreAnswered c.args.config.now l.session.state texts c.answer_all.new.session.state l.pass c.answer_all.new.pass (Appends (contents next.new.writer) (contents c.answer_all.new.writer)) =
    subst (λ xs. AreAnswered c.args.config.now l.session.state xs c.answer_all.new.session.state l.pass c.answer_all.new.pass (Appends (contents next.new.writer) (contents c.answer_all.new.writer))) lines
    (subst (λ config. AreAnswered config l.session.state (map string_bytes c.deref.result.now) c.answer_all.new.session.state l.pass c.answer_all.new.pass (Appends (contents next.new.writer) (contents c.answer_all.new.writer))) l.invariant.config
    c.in_ok-answer_all.ensures.ok) in
    let failed = err_from_is_err_and c.from_residual-in_err-behind.result c.from_residual-in_err-behind.ensures.1 in
    let fault = c.in_err-behind.field-0.0 in
    let Cut = λ (f : TalkFault). IfSome (left c.args.reader.now) (λ bytes. IsCutOff c.args.config.now c.args.pass.now c.answer_all.new.pass (Appends (contents c.args.writer.now) (contents c.answer_all.new.writer)) (left next.new.reader) bytes f) in
    subst (λ (r : Result Unit TalkFault). IfErr r Cut) (sym failed.1)
    (subst Cut (sym failed.2)
    (if_known (left c.args.reader.now) _ _ l.invariant.on (λ bytes h.
    let at = batch_on c.args.config.now bytes h.0 (has_ended l.lines) l.session.state c.args.pass.now l.pass (contents c.args.writer.now) (contents l.writer) (contents next.new.writer) (contents c.answer_all.new.writer) h.2 next.ensures.written
    texts (has_ended next.new.self) (IsBehind (Err fault) (left next.new.reader) (has_ended next.new.self) (IsLeft next.new.self (left next.new.reader))) (c.in_err-behind.ensures.lines h.0 h.1) next.ensures.stays_ended c.answer_all.new.session.state c.answer_all.new.pass answered in
    lines_cut c.args.config.now bytes at.0 (has_ended next.new.self) c.answer_all.new.session.state c.args.pass.now c.answer_all.new.pass (contents c.args.writer.now) (contents c.answer_all.new.writer) at.2 (contents c.answer_all.new.writer)
    (kept_here (contents c.answer_all.new.writer)) (left next.new.reader) fault (has_ended next.new.self) _ c.in_err-behind.ensures.no_read at.1)))

pub returns-in_err-behind-clause-reads : goal.returns-in_err-behind-clause-reads
returns-in_err-behind-clause-reads g c =
    let left = g.I.Read.remaining in
    let l = c.loop-texts in
    let next = c.next_lines-behind in
    let failed = err_from_is_err_and c.from_residual-in_err-behind.result c.from_residual-in_err-behind.ensures.1 in
    few_read c.from_residual-in_err-behind.result (left c.args.reader.now) (left next.new.reader) (reads_of next.new.self)
    (both_counted 0 (reads_of l.lines) (reads_of next.new.self) (left c.args.reader.now) (left l.reader) (left next.new.reader) l.invariant.counted next.ensures.count)
    (next.ensures.bound l.invariant.begins.1)
    (λ is. c.in_err-behind.ensures.turns (ap (λ f. Err f) (lines_turns c.in_err-behind.field-0.0 (sym failed.2 ∙ same_fault c.from_residual-in_err-behind.result failed.0 failed.1 is))))

pub returns-in-Bad-clause-ok : goal.returns-in-Bad-clause-ok
returns-in-Bad-clause-ok g c =
    let l = c.loop-texts in
    let left = g.I.Read.remaining in
    let contents = g.W.Write.contents in
    let next = c.next_lines-behind in
    let texts = map string_bytes next.new.texts.items in
    let lines : map string_bytes c.deref.result.now ≡ texts = ap (λ (xs : List (String Global)). map string_bytes xs) c.deref.ensures.value in
    let answered : AreAnswered c.args.config.now l.session.state texts c.answer_all.new.session.state l.pass c.answer_all.new.pass (Appends (contents next.new.writer) (contents c.answer_all.new.writer)) =
    subst (λ xs. AreAnswered c.args.config.now l.session.state xs c.answer_all.new.session.state l.pass c.answer_all.new.pass (Appends (contents next.new.writer) (contents c.answer_all.new.writer))) lines
    (subst (λ config. AreAnswered config l.session.state (map string_bytes c.deref.result.now) c.answer_all.new.session.state l.pass c.answer_all.new.pass (Appends (contents next.new.writer) (contents c.answer_all.new.writer))) l.invariant.config
    c.in_ok-answer_all.ensures.ok) in
    let alive : c.answer_all.new.session.state ≢ ended = λ e. (let yes = c.has_ended.ensures.1 e in let no = c.if-has_ended.false in cc) in
    on_ok_then c.say_bad_line.result _ _ c.say_bad_line.ensures.written (λ grown.
    if_known (left c.args.reader.now) _ _ l.invariant.on (λ bytes h.
    let at = batch_on c.args.config.now bytes h.0 (has_ended l.lines) l.session.state c.args.pass.now l.pass (contents c.args.writer.now) (contents l.writer) (contents next.new.writer) (contents c.answer_all.new.writer) h.2 next.ensures.written
    texts (has_ended next.new.self) (IsBehind (Ok Bad) (left next.new.reader) (has_ended next.new.self) (IsLeft next.new.self (left next.new.reader))) (rw c.in-Bad.is at (c.in_ok-behind.ensures.lines h.0 h.1)) next.ensures.stays_ended c.answer_all.new.session.state c.answer_all.new.pass answered in
    let bad = at.1 in
    let t = bad_taken c.args.config.now bytes at.0 (has_ended next.new.self) c.answer_all.new.session.state c.args.pass.now c.answer_all.new.pass (contents c.args.writer.now) (contents c.answer_all.new.writer) at.2 (contents c.answer_all.new.writer)
    (kept_here (contents c.answer_all.new.writer)) alive bad (contents c.say_bad_line.new.writer) grown in
    (t.0, t.1, inr t.2)))

pub returns-in-Bad-clause-fault : goal.returns-in-Bad-clause-fault
returns-in-Bad-clause-fault g c =
    let l = c.loop-texts in
    let left = g.I.Read.remaining in
    let contents = g.W.Write.contents in
    let next = c.next_lines-behind in
    let texts = map string_bytes next.new.texts.items in
    let lines : map string_bytes c.deref.result.now ≡ texts = ap (λ (xs : List (String Global)). map string_bytes xs) c.deref.ensures.value in
    let answered : AreAnswered c.args.config.now l.session.state texts c.answer_all.new.session.state l.pass c.answer_all.new.pass (Appends (contents next.new.writer) (contents c.answer_all.new.writer)) =
    subst (λ xs. AreAnswered c.args.config.now l.session.state xs c.answer_all.new.session.state l.pass c.answer_all.new.pass (Appends (contents next.new.writer) (contents c.answer_all.new.writer))) lines
    (subst (λ config. AreAnswered config l.session.state (map string_bytes c.deref.result.now) c.answer_all.new.session.state l.pass c.answer_all.new.pass (Appends (contents next.new.writer) (contents c.answer_all.new.writer))) l.invariant.config
    c.in_ok-answer_all.ensures.ok) in
    let Written = Appends (contents c.args.writer.now) (contents c.say_bad_line.new.writer) in
    unsaid c.say_bad_line.result (λ f. IfSome (left c.args.reader.now) (λ bytes. IsCutOff c.args.config.now c.args.pass.now c.answer_all.new.pass Written (left next.new.reader) bytes f)) c.say_bad_line.ensures.fault
    (if_known (left c.args.reader.now) _ _ l.invariant.on (λ bytes h.
    let at = batch_on c.args.config.now bytes h.0 (has_ended l.lines) l.session.state c.args.pass.now l.pass (contents c.args.writer.now) (contents l.writer) (contents next.new.writer) (contents c.answer_all.new.writer) h.2 next.ensures.written
    texts (has_ended next.new.self) (IsBehind next.result (left next.new.reader) (has_ended next.new.self) (IsLeft next.new.self (left next.new.reader))) (next.ensures.lines h.0 h.1) next.ensures.stays_ended c.answer_all.new.session.state c.answer_all.new.pass answered in
    end_cut c.args.config.now bytes at.0 (has_ended next.new.self) c.answer_all.new.session.state c.args.pass.now c.answer_all.new.pass (contents c.args.writer.now) (contents c.answer_all.new.writer) at.2 (contents c.answer_all.new.writer)
    (kept_here (contents c.answer_all.new.writer)) Written (left next.new.reader)))

pub returns-in-Bad-clause-reads : goal.returns-in-Bad-clause-reads
returns-in-Bad-clause-reads g c =
    let left = g.I.Read.remaining in
    let l = c.loop-texts in
    let next = c.next_lines-behind in
    few_read c.say_bad_line.result (left c.args.reader.now) (left next.new.reader) (reads_of next.new.self)
    (both_counted 0 (reads_of l.lines) (reads_of next.new.self) (left c.args.reader.now) (left l.reader) (left next.new.reader) l.invariant.counted next.ensures.count)
    (next.ensures.bound l.invariant.begins.1) (λ is. absurd (write_no_turns c.say_bad_line.result c.say_bad_line.ensures.fault is))

pub returns-in-End-clause-ok : goal.returns-in-End-clause-ok
returns-in-End-clause-ok g c =
    let l = c.loop-texts in
    let left = g.I.Read.remaining in
    let contents = g.W.Write.contents in
    let next = c.next_lines-behind in
    let texts = map string_bytes next.new.texts.items in
    let lines : map string_bytes c.deref.result.now ≡ texts = ap (λ (xs : List (String Global)). map string_bytes xs) c.deref.ensures.value in
    let answered : AreAnswered c.args.config.now l.session.state texts c.answer_all.new.session.state l.pass c.answer_all.new.pass (Appends (contents next.new.writer) (contents c.answer_all.new.writer)) =
    subst (λ xs. AreAnswered c.args.config.now l.session.state xs c.answer_all.new.session.state l.pass c.answer_all.new.pass (Appends (contents next.new.writer) (contents c.answer_all.new.writer))) lines
    (subst (λ config. AreAnswered config l.session.state (map string_bytes c.deref.result.now) c.answer_all.new.session.state l.pass c.answer_all.new.pass (Appends (contents next.new.writer) (contents c.answer_all.new.writer))) l.invariant.config
    c.in_ok-answer_all.ensures.ok) in
    on_ok c.flush-in-End.result _ (
    if_known (left c.args.reader.now) _ _ l.invariant.on (λ bytes h.
    let at = batch_on c.args.config.now bytes h.0 (has_ended l.lines) l.session.state c.args.pass.now l.pass (contents c.args.writer.now) (contents l.writer) (contents next.new.writer) (contents c.answer_all.new.writer) h.2 next.ensures.written
    texts (has_ended next.new.self) (IsBehind (Ok End) (left next.new.reader) (has_ended next.new.self) (IsLeft next.new.self (left next.new.reader))) (rw c.in-End.is at (c.in_ok-behind.ensures.lines h.0 h.1)) next.ensures.stays_ended c.answer_all.new.session.state c.answer_all.new.pass answered in
    let end = at.1 in
    let t = all_taken c.args.config.now bytes at.0 (has_ended next.new.self) c.answer_all.new.session.state c.args.pass.now c.answer_all.new.pass (contents c.args.writer.now) (contents c.answer_all.new.writer) at.2 (contents c.flush-in-End.new.writer)
    c.flush-in-End.ensures.kept end.0 in
    (t.0, t.1, inl end.1)))

pub returns-in-End-clause-fault : goal.returns-in-End-clause-fault
returns-in-End-clause-fault g c =
    let l = c.loop-texts in
    let left = g.I.Read.remaining in
    let contents = g.W.Write.contents in
    let next = c.next_lines-behind in
    let texts = map string_bytes next.new.texts.items in
    let lines : map string_bytes c.deref.result.now ≡ texts = ap (λ (xs : List (String Global)). map string_bytes xs) c.deref.ensures.value in
    let answered : AreAnswered c.args.config.now l.session.state texts c.answer_all.new.session.state l.pass c.answer_all.new.pass (Appends (contents next.new.writer) (contents c.answer_all.new.writer)) =
    subst (λ xs. AreAnswered c.args.config.now l.session.state xs c.answer_all.new.session.state l.pass c.answer_all.new.pass (Appends (contents next.new.writer) (contents c.answer_all.new.writer))) lines
    (subst (λ config. AreAnswered config l.session.state (map string_bytes c.deref.result.now) c.answer_all.new.session.state l.pass c.answer_all.new.pass (Appends (contents next.new.writer) (contents c.answer_all.new.writer))) l.invariant.config
    c.in_ok-answer_all.ensures.ok) in
    let Written = Appends (contents c.args.writer.now) (contents c.flush-in-End.new.writer) in
    unsaid c.flush-in-End.result (λ f. IfSome (left c.args.reader.now) (λ bytes. IsCutOff c.args.config.now c.args.pass.now c.answer_all.new.pass Written (left next.new.reader) bytes f)) c.flush-in-End.ensures.fault
    (if_known (left c.args.reader.now) _ _ l.invariant.on (λ bytes h.
    let at = batch_on c.args.config.now bytes h.0 (has_ended l.lines) l.session.state c.args.pass.now l.pass (contents c.args.writer.now) (contents l.writer) (contents next.new.writer) (contents c.answer_all.new.writer) h.2 next.ensures.written
    texts (has_ended next.new.self) (IsBehind next.result (left next.new.reader) (has_ended next.new.self) (IsLeft next.new.self (left next.new.reader))) (next.ensures.lines h.0 h.1) next.ensures.stays_ended c.answer_all.new.session.state c.answer_all.new.pass answered in
    end_cut c.args.config.now bytes at.0 (has_ended next.new.self) c.answer_all.new.session.state c.args.pass.now c.answer_all.new.pass (contents c.args.writer.now) (contents c.answer_all.new.writer) at.2 (contents c.answer_all.new.writer)
    (kept_here (contents c.answer_all.new.writer)) Written (left next.new.reader)))

pub returns-in-End-clause-reads : goal.returns-in-End-clause-reads
returns-in-End-clause-reads g c =
    let left = g.I.Read.remaining in
    let l = c.loop-texts in
    let next = c.next_lines-behind in
    few_read c.flush-in-End.result (left c.args.reader.now) (left next.new.reader) (reads_of next.new.self)
    (both_counted 0 (reads_of l.lines) (reads_of next.new.self) (left c.args.reader.now) (left l.reader) (left next.new.reader) l.invariant.counted next.ensures.count)
    (next.ensures.bound l.invariant.begins.1) (λ is. absurd (write_no_turns c.flush-in-End.result c.flush-in-End.ensures.fault is))

pub loop-texts-preserved : goal.loop-texts-preserved
loop-texts-preserved g c =
    let l = c.loop-texts in
    let left = g.I.Read.remaining in
    let contents = g.W.Write.contents in
    let next = c.next_lines-behind in
    let texts = map string_bytes next.new.texts.items in
    let lines : map string_bytes c.deref.result.now ≡ texts = ap (λ (xs : List (String Global)). map string_bytes xs) c.deref.ensures.value in
    let answered : AreAnswered c.args.config.now l.session.state texts c.answer_all.new.session.state l.pass c.answer_all.new.pass (Appends (contents next.new.writer) (contents c.answer_all.new.writer)) =
    subst (λ xs. AreAnswered c.args.config.now l.session.state xs c.answer_all.new.session.state l.pass c.answer_all.new.pass (Appends (contents next.new.writer) (contents c.answer_all.new.writer))) lines
    (subst (λ config. AreAnswered config l.session.state (map string_bytes c.deref.result.now) c.answer_all.new.session.state l.pass c.answer_all.new.pass (Appends (contents next.new.writer) (contents c.answer_all.new.writer))) l.invariant.config
    c.in_ok-answer_all.ensures.ok) in
    let on = rw c.in-More.is at (c.in_ok-behind.ensures.further l.invariant.begins) in
    record {
      begins = on.0;
      counted = both_counted 0 (reads_of l.lines) (reads_of next.new.self) (left c.args.reader.now) (left l.reader) (left next.new.reader) l.invariant.counted next.ensures.count;
      pass = calls_both c.args.pass.now l.pass c.answer_all.new.pass l.invariant.pass (answered.0.made, answered.0.pass);
      seat = c.in_ok-answer_all.ensures.seat ∙ l.invariant.seat;
      config = c.in_ok-answer_all.ensures.config ∙ l.invariant.config;
      waiting = c.in_ok-answer_all.ensures.none;
      alive = λ e. (let yes = c.has_ended.ensures.1 e in let no = c.if-has_ended.false in cc);
      on = if_known (left c.args.reader.now) _ _ l.invariant.on (λ bytes h.
          let at = batch_on c.args.config.now bytes h.0 (has_ended l.lines) l.session.state c.args.pass.now l.pass (contents c.args.writer.now) (contents l.writer) (contents next.new.writer) (contents c.answer_all.new.writer) h.2 next.ensures.written
          texts (has_ended next.new.self) (IsBehind (Ok More) (left next.new.reader) (has_ended next.new.self) (IsLeft next.new.self (left next.new.reader))) (rw c.in-More.is at (c.in_ok-behind.ensures.lines h.0 h.1)) next.ensures.stays_ended c.answer_all.new.session.state c.answer_all.new.pass answered in
          (at.0, at.1, at.2));
    }

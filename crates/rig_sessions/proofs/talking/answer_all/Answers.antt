use Rattle.std.proofs.Common.{◌≡◌, ◌≤◌, ◌+◌, ℕ, List, [], ◌∷◌, ◌++◌, length, map, string_bytes, take, drop, String, Global, Result, Err, IfErr, refl, sym, ap, ◌∙◌, subst, append-nil, arith}
use Rattle.std.proofs.lemmas.Bool.Decides.{nat_tests}
use Rattle.std.proofs.lemmas.List.{take_all}
use Rattle.std.proofs.lemmas.Result.{err_from_is_err_and}
use Rattle.std.specs.Io.KnownBytes.{Appends}
use Rattle.rig_sessions.specs.inner.Answered.{AreAnswered, AreUnanswered, IsUnderWay}
use Rattle.rig_sessions.specs.declared.faults.TalkFault.{TalkFault}
use Rattle.rig_sessions.proofs.Answering.{appends_nothing, on_err}
use Rattle.text_lines.proofs.cited.AnsweredLines.{on_ok_then}
use Rattle.rig_sessions.proofs.Batches.{none_taken, nothing_waits, texts_at, unanswered_before, waiting_unanswered}
use Rattle.rig_sessions.proofs.talking.answer_all.Goals as goal

pub loop-line-init : goal.loop-line-init
loop-line-init g c = record {
  config = refl;
  seat = refl;
  under_way = record {
    front = [];
    back = [];
    split = refl;
    answered = (none_taken c.args.session.now.config c.args.session.now.state c.args.pass.now, appends_nothing (g.W.Write.contents c.args.writer.now));
    waits = rw c.requires tt;
  };
}

pub returns-in_err-answer-clause-fault : goal.returns-in_err-answer-clause-fault
returns-in_err-answer-clause-fault g c =
    let l = c.loop-line in
    let s = c.args.session.now in
    let lines = c.args.lines.now in
    let w = g.W.Write.contents c.args.writer.now in
    let texts = map string_bytes (take l.line-index lines) in
    let text = c.as_str.result.now in
    let new = c.answer.new.pass in
    let failed = err_from_is_err_and c.from_residual.result c.from_residual.ensures.1 in
    let fault = c.in_err-answer.field-0.0 in
    let on = subst (λ config. IsUnderWay config s.state texts l.session.state l.work.tenant l.work.waiting.items c.args.pass.now l.pass (Appends w (g.W.Write.contents l.writer))) (sym l.invariant.config) l.invariant.under_way in
    let here : AreUnanswered s.config s.state (texts ++ text ∷ []) c.args.pass.now new fault =
    subst (λ config. AreUnanswered config s.state (texts ++ text ∷ []) c.args.pass.now new fault) l.invariant.config (c.in_err-answer.ensures.fault s.state texts c.args.pass.now w on) in
    subst (λ (r : Result Unit TalkFault). IfErr r (AreUnanswered s.config s.state (map string_bytes lines) c.args.pass.now new)) (sym (failed.1 ∙ ap (λ f. Err f) failed.2))
    (subst (λ xs. AreUnanswered s.config s.state xs c.args.pass.now new fault) (texts_at lines l.line-index c.line-item.result text c.line-item.is c.loop-line-test.true c.as_str.ensures.value)
    (unanswered_before s.config s.state (texts ++ text ∷ []) (map string_bytes (drop (l.line-index + 1) lines)) c.args.pass.now new fault here))

pub returns-clause-ok : goal.returns-clause-ok
returns-clause-ok g c =
    let l = c.loop-line in
    let s = c.args.session.now in
    let lines = c.args.lines.now in
    let contents = g.W.Write.contents in
    let w = contents c.args.writer.now in
    let texts = map string_bytes (take l.line-index lines) in
    let new = c.call_waiting.new.pass in
    let le : length lines ≤ l.line-index = grind (arith, nat_tests, c.loop-line-test.false) in
    let all : texts ≡ map string_bytes lines = ap (λ (xs : List (String Global)). map string_bytes xs) (take_all l.line-index lines le) in
    on_ok_then c.call_waiting.result _ _ c.call_waiting.ensures.ok (λ done.
    subst (λ xs. AreAnswered s.config s.state xs l.session.state c.args.pass.now new (Appends w (contents c.call_waiting.new.writer))) all
    (nothing_waits s.config s.state l.session.state texts l.work.tenant l.work.waiting.items c.args.pass.now l.pass new w (contents l.writer) (contents c.call_waiting.new.writer) l.invariant.under_way
    (λ xs waits. done s.config l.session.state xs waits)))

pub returns-clause-fault : goal.returns-clause-fault
returns-clause-fault g c =
    let l = c.loop-line in
    let s = c.args.session.now in
    let lines = c.args.lines.now in
    let w = g.W.Write.contents c.args.writer.now in
    let texts = map string_bytes (take l.line-index lines) in
    let new = c.call_waiting.new.pass in
    let le : length lines ≤ l.line-index = grind (arith, nat_tests, c.loop-line-test.false) in
    let all : texts ++ [] ≡ map string_bytes lines = append-nil texts ∙ ap (λ (xs : List (String Global)). map string_bytes xs) (take_all l.line-index lines le) in
    on_err c.call_waiting.result _ _ c.call_waiting.ensures.fault (λ f failed.
    subst (λ xs. AreUnanswered s.config s.state xs c.args.pass.now new f) all
    (waiting_unanswered s.config s.state l.session.state texts l.work.tenant l.work.waiting.items c.args.pass.now l.pass new (Appends w (g.W.Write.contents l.writer)) [] f l.invariant.under_way
    (λ xs waits. failed s.config l.session.state xs waits)))

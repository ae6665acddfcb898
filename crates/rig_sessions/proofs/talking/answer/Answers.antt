use Rattle.std.proofs.Common.{◌≡◌, ◌≢◌, ◌⊎◌, ℕ, List, [], ◌∷◌, ◌++◌, Option, Result, Ok, Err, IfErr, OnOk, refl, sym, ap, ◌∙◌, subst, inl, inr}
use Rattle.std.specs.Io.KnownBytes.{Appends}
use Rattle.std.proofs.lemmas.Result.{err_from_is_err_and}
use Rattle.rig_model.specs.Sessions.{State, Step, bye, text_step}
use Rattle.locked_book.specs.Books.{PassValue}
use Rattle.rig_sessions.specs.inner.Steps.{act_of, text_of_own}
use Rattle.rig_sessions.specs.declared.sessions.Step.{Step as LineStep}
use Rattle.rig_sessions.specs.declared.sessions.Step.TheVariants.{Call as LineCall}
use Rattle.rig_sessions.specs.declared.faults.TalkFault.{TalkFault}
use Rattle.rig_sessions.specs.declared.faults.TalkFault.TheVariants.{Write}
use Rattle.rig_sessions.specs.inner.Answered.{AreAnswered, AreUnanswered, AreWaiting, IsAnswered, IsTaken, IsUnanswered, IsUnderWay}
use Rattle.text_lines.proofs.cited.AnsweredLines.{on_ok_then}
use Rattle.rig_sessions.proofs.Answering.{appends_nothing, on_err, on_ok_two, quiet_taken, said_taken, unread_taken}
use Rattle.rig_sessions.proofs.Batches.{answered_or_not, one_behind, one_unanswered, one_waits, waiting_unanswered}
use Rattle.rig_sessions.proofs.talking.answer.Goals as goal

pub returns-in_default-clause-ok : goal.returns-in_default-clause-ok
returns-in_default-clause-ok g c =
    let s = c.args.session.now in
    let contents = g.W.Write.contents in
    let t = c.line.new.self.state in
    let new = c.call_and_say.new.pass in
    on_ok_two c.call_and_say.result _ _ _ c.call_and_say.ensures.ok c.call_and_say.ensures.none (λ done none from texts first before on.
    one_behind s.config from s.state t texts c.args.work.now.tenant c.args.work.now.waiting.items first c.args.pass.now new new before (contents c.args.writer.now) done.0 (contents c.call_and_say.new.writer) c.args.line.now on
    (λ xs waits. done.1 s.config s.state xs waits)
    (unread_taken (text_step s.config s.state c.args.line.now) s.state t new (Appends done.0 (contents c.call_and_say.new.writer)) (c.in_default.ensures.memory refl) (ap (λ x. x.state) c.in_default.ensures.refused) done.2)
    c.call_and_say.new.work.tenant c.call_and_say.new.work.waiting.items none)

pub returns-in_default-clause-fault : goal.returns-in_default-clause-fault
returns-in_default-clause-fault g c =
    let s = c.args.session.now in
    on_err c.call_and_say.result _ _ c.call_and_say.ensures.fault (λ f failed from texts first before on.
    answered_or_not s.config from s.state texts c.args.work.now.tenant c.args.work.now.waiting.items first c.args.pass.now c.call_and_say.new.pass (Appends before (g.W.Write.contents c.args.writer.now)) c.args.line.now f on
    (λ xs waits. failed s.config s.state xs waits))

pub returns-in-Say-clause-ok : goal.returns-in-Say-clause-ok
returns-in-Say-clause-ok g c =
    let s = c.args.session.now in
    let contents = g.W.Write.contents in
    let t = c.line.new.self.state in
    let new = c.call_and_say-in-Say.new.pass in
    let is = c.in-Ok.ensures.step.0 ∙ ap (λ (x : LineStep). record { act = act_of x; state = t }) c.in-Say.is in
    on_ok_two c.call_and_say-in-Say.result _ _ _ c.call_and_say-in-Say.ensures.ok c.call_and_say-in-Say.ensures.none (λ done none from texts first before on.
    one_behind s.config from s.state t texts c.args.work.now.tenant c.args.work.now.waiting.items first c.args.pass.now new new before (contents c.args.writer.now) done.0 (contents c.call_and_say-in-Say.new.writer) c.args.line.now on
    (λ xs waits. done.1 s.config s.state xs waits)
    (subst (λ (x : Step). IsAnswered x t new new (Appends done.0 (contents c.call_and_say-in-Say.new.writer))) (sym is) (said_taken (text_of_own c.in-Say.reply) t new, subst (Appends done.0 (contents c.call_and_say-in-Say.new.writer)) (c.as_bytes-own.ensures.value ∙ c.as_line.ensures) done.2))
    c.call_and_say-in-Say.new.work.tenant c.call_and_say-in-Say.new.work.waiting.items none)

pub returns-in-Say-clause-fault : goal.returns-in-Say-clause-fault
returns-in-Say-clause-fault g c =
    let s = c.args.session.now in
    on_err c.call_and_say-in-Say.result _ _ c.call_and_say-in-Say.ensures.fault (λ f failed from texts first before on.
    answered_or_not s.config from s.state texts c.args.work.now.tenant c.args.work.now.waiting.items first c.args.pass.now c.call_and_say-in-Say.new.pass (Appends before (g.W.Write.contents c.args.writer.now)) c.args.line.now f on
    (λ xs waits. failed s.config s.state xs waits))

pub returns-in-End-clause-ok : goal.returns-in-End-clause-ok
returns-in-End-clause-ok g c =
    let s = c.args.session.now in
    let contents = g.W.Write.contents in
    let t = c.line.new.self.state in
    let new = c.call_and_say-in-End.new.pass in
    let is = c.in-Ok.ensures.step.0 ∙ ap (λ (x : LineStep). record { act = act_of x; state = t }) c.in-End.is in
    on_ok_two c.call_and_say-in-End.result _ _ _ c.call_and_say-in-End.ensures.ok c.call_and_say-in-End.ensures.none (λ done none from texts first before on.
    one_behind s.config from s.state t texts c.args.work.now.tenant c.args.work.now.waiting.items first c.args.pass.now new new before (contents c.args.writer.now) done.0 (contents c.call_and_say-in-End.new.writer) c.args.line.now on
    (λ xs waits. done.1 s.config s.state xs waits)
    (subst (λ (x : Step). IsAnswered x t new new (Appends done.0 (contents c.call_and_say-in-End.new.writer))) (sym is) (said_taken bye t new, done.2))
    c.call_and_say-in-End.new.work.tenant c.call_and_say-in-End.new.work.waiting.items none)

pub returns-in-End-clause-fault : goal.returns-in-End-clause-fault
returns-in-End-clause-fault g c =
    let s = c.args.session.now in
    on_err c.call_and_say-in-End.result _ _ c.call_and_say-in-End.ensures.fault (λ f failed from texts first before on.
    answered_or_not s.config from s.state texts c.args.work.now.tenant c.args.work.now.waiting.items first c.args.pass.now c.call_and_say-in-End.new.pass (Appends before (g.W.Write.contents c.args.writer.now)) c.args.line.now f on
    (λ xs waits. failed s.config s.state xs waits))

pub returns-in-Quiet-clause-ok : goal.returns-in-Quiet-clause-ok
returns-in-Quiet-clause-ok g c =
    let s = c.args.session.now in
    let contents = g.W.Write.contents in
    let t = c.line.new.self.state in
    let new = c.call_waiting.new.pass in
    let z = contents c.call_waiting.new.writer in
    let is = c.in-Ok.ensures.step.0 ∙ ap (λ (x : LineStep). record { act = act_of x; state = t }) c.in-Quiet.is in
    on_ok_two c.call_waiting.result _ _ _ c.call_waiting.ensures.ok c.call_waiting.ensures.none (λ done none from texts first before on.
    one_behind s.config from s.state t texts c.args.work.now.tenant c.args.work.now.waiting.items first c.args.pass.now new new before (contents c.args.writer.now) z z c.args.line.now on
    (λ xs waits. done s.config s.state xs waits) (subst (λ (x : Step). IsAnswered x t new new (Appends z z)) (sym is) (quiet_taken t new, appends_nothing z)) c.call_waiting.new.work.tenant c.call_waiting.new.work.waiting.items none)

pub returns-in-Quiet-clause-fault : goal.returns-in-Quiet-clause-fault
returns-in-Quiet-clause-fault g c =
    let s = c.args.session.now in
    on_err c.call_waiting.result _ _ c.call_waiting.ensures.fault (λ f failed from texts first before on.
    waiting_unanswered s.config from s.state texts c.args.work.now.tenant c.args.work.now.waiting.items first c.args.pass.now c.call_waiting.new.pass (Appends before (g.W.Write.contents c.args.writer.now)) (c.args.line.now ∷ []) f on
    (λ xs waits. failed s.config s.state xs waits))

pub returns-in-Ok-wait-clause-ok : goal.returns-in-Ok-wait-clause-ok
returns-in-Ok-wait-clause-ok g c = λ from texts first before on.
    let s = c.args.session.now in
    let t = c.line.new.self.state in
    let is = c.in-Ok.ensures.step.0 ∙ ap (λ (x : LineStep). record { act = act_of x; state = t }) c.in-Call.is in
    let waits = c.in-Ok-wait.ensures.waits in
    let Written = Appends before (g.W.Write.contents c.args.writer.now) in
    subst (λ v. IsUnderWay s.config from (texts ++ c.args.line.now ∷ []) t v c.wait.new.self.waiting.items first c.args.pass.now Written) (sym waits.1)
    (one_waits s.config from s.state t texts c.args.work.now.tenant c.in-Call.tenant c.args.work.now.waiting.items c.wait.new.self.waiting.items first c.args.pass.now Written c.args.line.now c.in-Call.command on is waits.0)

pub returns-in_err-call_waiting-in-Err-clause-fault : goal.returns-in_err-call_waiting-in-Err-clause-fault
returns-in_err-call_waiting-in-Err-clause-fault g c =
    let s = c.args.session.now in
    let work = c.args.work.now in
    let kept = c.in-Err.ensures.refused in
    let failed = err_from_is_err_and c.from_residual.result c.from_residual.ensures.1 in
    let P : TalkFault → Type 0 = λ fault. (from : State) (texts : List (List ℕ)) (first : PassValue) (before : Option (List ℕ))
    → IsUnderWay s.config from texts s.state work.tenant work.waiting.items first c.args.pass.now (Appends before (g.W.Write.contents c.args.writer.now))
    → AreUnanswered s.config from (texts ++ c.args.line.now ∷ []) first c.call_waiting-in-Err.new.pass fault in
    subst (λ (r : Result Unit TalkFault). IfErr r P) (sym (failed.1 ∙ ap (λ f. Err f) failed.2))
    (λ from texts first before on.
    waiting_unanswered s.config from s.state texts work.tenant work.waiting.items first c.args.pass.now c.call_waiting-in-Err.new.pass (Appends before (g.W.Write.contents c.args.writer.now)) (c.args.line.now ∷ []) c.in_err-call_waiting-in-Err.field-0.0 on
    (λ xs waits. c.in_err-call_waiting-in-Err.ensures.fault s.config s.state xs
    (subst (λ n. AreWaiting s.config s.state n xs c.wait.new.self.waiting.items) (sym kept.1) (subst (λ cs. AreWaiting s.config s.state work.tenant xs cs) (sym kept.0) waits))))

pub returns-in_ok-call_waiting-in-Err-clause-ok : goal.returns-in_ok-call_waiting-in-Err-clause-ok
returns-in_ok-call_waiting-in-Err-clause-ok g c =
    let s = c.args.session.now in
    let work = c.args.work.now in
    let contents = g.W.Write.contents in
    let t = c.line.new.self.state in
    let is = c.in-Ok.ensures.step.0 ∙ ap (λ (x : LineStep). record { act = act_of x; state = t }) (c.in-Call.is ∙ ap (λ k. LineCall c.in-Call.tenant k) (sym c.in-Err.ensures.back)) in
    let kept = c.in-Err.ensures.refused in
    let mid = c.call_waiting-in-Err.new.pass in
    let new = c.request.new.pass in
    let v = contents c.call_waiting-in-Err.new.writer in
    let z = contents c.request.new.writer in
    on_ok_then c.request.result _ _ c.request.ensures.ok (λ done from texts first before on.
    one_behind s.config from s.state t texts work.tenant work.waiting.items first c.args.pass.now mid new before (contents c.args.writer.now) v z c.args.line.now on
    (λ xs waits. c.in_ok-call_waiting-in-Err.ensures.ok s.config s.state xs
    (subst (λ n. AreWaiting s.config s.state n xs c.wait.new.self.waiting.items) (sym kept.1) (subst (λ cs. AreWaiting s.config s.state work.tenant xs cs) (sym kept.0) waits)))
    (subst (λ (x : Step). IsAnswered x t mid new (Appends v z)) (sym is) (done t)) c.call_waiting-in-Err.new.work.tenant c.call_waiting-in-Err.new.work.waiting.items c.in_ok-call_waiting-in-Err.ensures.none)

pub returns-in_ok-call_waiting-in-Err-clause-fault : goal.returns-in_ok-call_waiting-in-Err-clause-fault
returns-in_ok-call_waiting-in-Err-clause-fault g c =
    let s = c.args.session.now in
    let work = c.args.work.now in
    let contents = g.W.Write.contents in
    let t = c.line.new.self.state in
    let is = c.in-Ok.ensures.step.0 ∙ ap (λ (x : LineStep). record { act = act_of x; state = t }) (c.in-Call.is ∙ ap (λ k. LineCall c.in-Call.tenant k) (sym c.in-Err.ensures.back)) in
    let kept = c.in-Err.ensures.refused in
    let mid = c.call_waiting-in-Err.new.pass in
    let new = c.request.new.pass in
    on_err c.request.result _ _ c.request.ensures.fault (λ f failed from texts first before on.
    one_unanswered s.config from s.state texts work.tenant work.waiting.items first c.args.pass.now mid new (Appends before (contents c.args.writer.now)) (Appends (contents c.args.writer.now) (contents c.call_waiting-in-Err.new.writer)) c.args.line.now f on
    (λ xs waits. c.in_ok-call_waiting-in-Err.ensures.ok s.config s.state xs
    (subst (λ n. AreWaiting s.config s.state n xs c.wait.new.self.waiting.items) (sym kept.1) (subst (λ cs. AreWaiting s.config s.state work.tenant xs cs) (sym kept.0) waits)))
    (subst (λ (x : Step). IsUnanswered x mid new f) (sym is) (failed t)))

use Rattle.std.proofs.Common.{◌≡◌, ◌≢◌, ℕ, List, length, drop, Result, Err, IfErr, refl, sym, ap, subst, ◌∙◌}
use Rattle.std.proofs.lemmas.Result.{err_from_is_err_and}
use Rattle.rig_model.specs.config.Roster.{Rig}
use Rattle.locked_book.specs.declared.faults.DeskFault.TheVariants as desk
use Rattle.rig_model.specs.Sessions.{State}
use Rattle.rig_sessions.specs.inner.Answered.{AreUnanswered, AreWaiting}
use Rattle.rig_sessions.specs.declared.faults.TalkFault.{TalkFault}
use Rattle.rig_sessions.specs.declared.faults.TalkFault.TheVariants.{Write}
use Rattle.rig_sessions.proofs.Batches.{calls_are, calls_taken, memory_behind, refused_behind, unwritten_behind}
use Rattle.rig_sessions.proofs.waiting.call_some.Goals as goal

pub returns-in_err-say_replies-clause-fault : goal.returns-in_err-say_replies-clause-fault
returns-in_err-say_replies-clause-fault g c =
    let called = c.call_all-answer.ensures.called in
    let old = c.args.pass.now in
    let new = c.call_all-answer.new.pass in
    let same = calls_are old new called.made c.behind-calls.result.now (length c.calls-before.result.now) called.calls (ap (λ l. length l) c.calls-before.ensures) (c.behind-calls.ensures ∙ ap (λ l. drop (length c.calls-before.result.now) l) c.calls.ensures) in
    let failed = err_from_is_err_and c.from_residual.result c.from_residual.ensures.1 in
    let P : TalkFault → Type 0 = λ fault. (config : Rig) (s : State) (texts : List (List ℕ)) → AreWaiting config s c.args.tenant texts c.args.commands.now → AreUnanswered config s texts old new fault in
    subst (λ (r : Result ℕ TalkFault). IfErr r P) (sym (failed.1 ∙ ap (λ f. Err f) (failed.2 ∙ c.in_err-say_replies.ensures.fault)))
    (λ config s texts waits. unwritten_behind config s c.args.tenant texts c.args.commands.now c.call_all-answer.result old new called c.behind-calls.result.now same waits)

pub returns-in_err-say-in-Memory-clause-fault : goal.returns-in_err-say-in-Memory-clause-fault
returns-in_err-say-in-Memory-clause-fault g c =
    let called = c.call_all-answer.ensures.called in
    let old = c.args.pass.now in
    let new = c.call_all-answer.new.pass in
    let same = calls_are old new called.made c.behind-calls.result.now (length c.calls-before.result.now) called.calls (ap (λ l. length l) c.calls-before.ensures) (c.behind-calls.ensures ∙ ap (λ l. drop (length c.calls-before.result.now) l) c.calls.ensures) in
    let failed = err_from_is_err_and c.from_residual-in_err-say-in-Memory.result c.from_residual-in_err-say-in-Memory.ensures.1 in
    let P : TalkFault → Type 0 = λ fault. (config : Rig) (s : State) (texts : List (List ℕ)) → AreWaiting config s c.args.tenant texts c.args.commands.now → AreUnanswered config s texts old new fault in
    subst (λ (r : Result ℕ TalkFault). IfErr r P) (sym (failed.1 ∙ ap (λ f. Err f) (failed.2 ∙ c.in_err-say-in-Memory.ensures.fault)))
    (λ config s texts waits. unwritten_behind config s c.args.tenant texts c.args.commands.now c.call_all-answer.result old new called c.behind-calls.result.now same waits)

pub returns-in-Ok-clause-ok : goal.returns-in-Ok-clause-ok
returns-in-Ok-clause-ok g c = λ config s texts waits.
    let called = c.call_all-answer.ensures.called in
    let old = c.args.pass.now in
    let new = c.call_all-answer.new.pass in
    let same = calls_are old new called.made c.behind-calls.result.now (length c.calls-before.result.now) called.calls (ap (λ l. length l) c.calls-before.ensures) (c.behind-calls.ensures ∙ ap (λ l. drop (length c.calls-before.result.now) l) c.calls.ensures) in
    let told = c.in_ok-say_replies.ensures.told in
    (calls_taken config s c.args.tenant texts c.args.commands.now c.call_all-answer.result old new called c.behind-calls.result.now same told.0 told.1 told.2 waits, told.3)

pub returns-in_ok-say-in-Memory-clause-ok : goal.returns-in_ok-say-in-Memory-clause-ok
returns-in_ok-say-in-Memory-clause-ok g c = λ config s texts waits.
    let contents = g.W.Write.contents in
    let called = c.call_all-answer.ensures.called in
    let old = c.args.pass.now in
    let new = c.call_all-answer.new.pass in
    let same = calls_are old new called.made c.behind-calls.result.now (length c.calls-before.result.now) called.calls (ap (λ l. length l) c.calls-before.ensures) (c.behind-calls.ensures ∙ ap (λ l. drop (length c.calls-before.result.now) l) c.calls.ensures) in
    let told = c.in_ok-say_replies.ensures.told in
    memory_behind config s c.args.tenant texts c.args.commands.now c.call_all-answer.result old new (c.in-Err.is ∙ ap (λ f. Err f) c.in-Memory.is) called c.behind-calls.result.now same told.0 told.1 told.2 waits
    (contents c.args.writer.now) (contents c.say_replies.new.writer) (contents c.say.new.writer) told.3 c.in_ok-say-in-Memory.ensures.written

pub returns-in-PassFull-clause-fault : goal.returns-in-PassFull-clause-fault
returns-in-PassFull-clause-fault g c = λ config s texts waits.
    let called = c.call_all-answer.ensures.called in
    let old = c.args.pass.now in
    let new = c.call_all-answer.new.pass in
    let same = calls_are old new called.made c.behind-calls.result.now (length c.calls-before.result.now) called.calls (ap (λ l. length l) c.calls-before.ensures) (c.behind-calls.ensures ∙ ap (λ l. drop (length c.calls-before.result.now) l) c.calls.ensures) in
    let told = c.in_ok-say_replies.ensures.told in
    subst (AreUnanswered config s texts old new) (sym c.refuse.ensures)
    (refused_behind config desk.PassFull (λ is. cc) s c.args.tenant texts c.args.commands.now c.call_all-answer.result old new (c.in-Err.is ∙ ap (λ f. Err f) c.in-PassFull.is) called c.behind-calls.result.now same
    told.0 told.1 told.2 waits)

pub returns-in-Strange-clause-fault : goal.returns-in-Strange-clause-fault
returns-in-Strange-clause-fault g c = λ config s texts waits.
    let called = c.call_all-answer.ensures.called in
    let old = c.args.pass.now in
    let new = c.call_all-answer.new.pass in
    let same = calls_are old new called.made c.behind-calls.result.now (length c.calls-before.result.now) called.calls (ap (λ l. length l) c.calls-before.ensures) (c.behind-calls.ensures ∙ ap (λ l. drop (length c.calls-before.result.now) l) c.calls.ensures) in
    let told = c.in_ok-say_replies.ensures.told in
    subst (AreUnanswered config s texts old new) (sym c.refuse-in-Strange.ensures)
    (refused_behind config (desk.Strange c.in-Strange.length) (λ is. cc) s c.args.tenant texts c.args.commands.now c.call_all-answer.result old new (c.in-Err.is ∙ ap (λ f. Err f) c.in-Strange.is) called c.behind-calls.result.now
    same told.0 told.1 told.2 waits)

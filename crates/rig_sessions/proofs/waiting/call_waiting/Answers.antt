use Rattle.std.proofs.Common.{◌≡◌, ◌≤◌, ◌<◌, ◌+◌, ◌-◌, ℕ, List, length, take, drop, Result, Err, IfErr, refl, sym, ap, subst, ◌∙◌, arith}
use Rattle.std.proofs.lemmas.Bool.Decides.{nat_tests}
use Rattle.std.proofs.lemmas.List.{length-drop}
use Rattle.std.proofs.lemmas.Result.{err_from_is_err_and}
use Rattle.std.specs.Io.KnownBytes.{Appends}
use Rattle.rig_model.specs.config.Roster.{Rig}
use Rattle.rig_model.specs.declared.lines.commands.Command.{Command}
use Rattle.rig_model.specs.Sessions.{State}
use Rattle.rig_sessions.specs.inner.Answered.{AreAnswered, AreUnanswered, AreWaiting}
use Rattle.rig_sessions.specs.declared.faults.TalkFault.{TalkFault}
use Rattle.rig_sessions.proofs.Answering.{appends_nothing}
use Rattle.rig_sessions.proofs.Batches.{all_answered, further_answered, further_unanswered, none_taken, others_wait}
use Rattle.rig_sessions.proofs.waiting.call_waiting.Goals as goal

pub loop-at-init : goal.loop-at-init
loop-at-init g c = record {
  waiting = refl;
  tenant = refl;
  within = omega arith;
  seat = refl;
  answered = λ config s texts waits. (none_taken config s c.args.pass.now, appends_nothing (g.W.Write.contents c.args.writer.now));
}

pub returns-in_err-at-clause-fault : goal.returns-in_err-at-clause-fault
returns-in_err-at-clause-fault g c =
    let l = c.loop-at in
    let cs = c.args.work.now.waiting.items in
    let failed = err_from_is_err_and c.from_residual.result c.from_residual.ensures.1 in
    let P : TalkFault → Type 0 = λ fault. (config : Rig) (s : State) (texts : List (List ℕ)) → AreWaiting config s c.args.work.now.tenant texts cs → AreUnanswered config s texts c.args.pass.now c.call_some.new.pass fault in
    subst (λ (r : Result Unit TalkFault). IfErr r P) (sym (failed.1 ∙ ap (λ f. Err f) failed.2))
    (λ config s texts waits.
    let are : c.behind-commands.result.now ≡ drop l.at cs = c.behind-commands.ensures ∙ ap (λ xs. drop l.at xs) (c.deref.ensures.value ∙ l.invariant.waiting) in
    let here = subst (λ (xs : List Command). AreWaiting config s l.work.tenant (drop l.at texts) xs) (sym are)
    (subst (λ t. AreWaiting config s t (drop l.at texts) (drop l.at cs)) (sym l.invariant.tenant) (others_wait config l.at s c.args.work.now.tenant texts cs waits)) in
    further_unanswered config s texts l.at c.args.pass.now l.pass c.call_some.new.pass (Appends (g.W.Write.contents c.args.writer.now) (g.W.Write.contents l.writer)) c.in_err-at.field-0.0
    (l.invariant.answered config s texts waits) (c.in_err-at.ensures.fault config s (drop l.at texts) here))

pub loop-at-preserved : goal.loop-at-preserved
loop-at-preserved g c =
    let l = c.loop-at in
    let contents = g.W.Write.contents in
    let cs = c.args.work.now.waiting.items in
    let given = c.in_ok-at.ensures in
    let are : c.behind-commands.result.now ≡ drop l.at cs = c.behind-commands.ensures ∙ ap (λ xs. drop l.at xs) (c.deref.ensures.value ∙ l.invariant.waiting) in
    let many : length c.behind-commands.result.now ≡ length cs - l.at = ap (λ (xs : List Command). length xs) are ∙ length-drop l.at cs in
    let some = given.some in
    let within = l.invariant.within in
    record {
      waiting = l.invariant.waiting;
      tenant = l.invariant.tenant;
      within = omega (arith, many, some.0, some.1, within);
      seat = given.seat ∙ l.invariant.seat;
      answered = λ config s texts waits.
          (let here = subst (λ (xs : List Command). AreWaiting config s l.work.tenant (drop l.at texts) xs) (sym are)
          (subst (λ t. AreWaiting config s t (drop l.at texts) (drop l.at cs)) (sym l.invariant.tenant) (others_wait config l.at s c.args.work.now.tenant texts cs waits)) in
          further_answered config s texts l.at c.in_ok-at.field-0 c.args.pass.now l.pass c.call_some.new.pass (contents c.args.writer.now) (contents l.writer) (contents c.call_some.new.writer)
          (l.invariant.answered config s texts waits) (given.ok config s (drop l.at texts) here));
    }

pub returns-clause-ok : goal.returns-clause-ok
returns-clause-ok g c = λ config s texts waits.
    let l = c.loop-at in
    let cs = c.args.work.now.waiting.items in
    let all : length cs ≤ l.at = (let same = ap (λ (xs : List Command). length xs) l.invariant.waiting in grind (arith, nat_tests, c.loop-at-test.false, c.len.ensures, same)) in
    all_answered config s c.args.work.now.tenant texts cs l.at c.args.pass.now l.pass (Appends (g.W.Write.contents c.args.writer.now) (g.W.Write.contents l.writer)) waits all (l.invariant.answered config s texts waits)

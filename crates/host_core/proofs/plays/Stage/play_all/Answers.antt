use Rattle.std.proofs.Common.{◌∙◌, ◌∷◌, Err, sym, ap, subst, take, reverse}
use Rattle.host_core.specs.inner.Playing.{IsPlayed}
use Rattle.host_core.specs.declared.plays.PlayFault.TheVariants.{Illegal}
use Rattle.host_core.proofs.plays.Stage.play_all.Goals as goal
use Rattle.host_core.proofs.Played.{least_illegal, passed_on}
use Rattle.giotto_tasks.proofs.cited.ListLemmas.{reverse_more}

pub loop-i-preserved : goal.loop-i-preserved
loop-i-preserved c = λ setting is.
    let past = reverse (take c.loop-i.i c.args.events.now) in
    subst (λ es. IsPlayed setting es c.play_next.new.self.host c.play_next.new.self.texts.items c.play_next.new.self.released.keys)
    (sym (reverse_more c.args.events.now c.loop-i.i c.index-events-i.result c.loop-i-test.true ∙ ap (λ e. e ∷ past) (sym c.index-events-i.is)))
    (c.in_ok-play_next.ensures.played setting past (c.loop-i.invariant setting is))

pub returns-in_err-play_next-clause-illegal : goal.returns-in_err-play_next-clause-illegal
returns-in_err-play_next-clause-illegal c = λ setting is i e.
    let past = reverse (take c.loop-i.i c.args.events.now) in
    let played = c.loop-i.invariant setting is in
    let told = c.in_err-play_next.ensures.illegal setting past played i (ap Err (passed_on c.in_err-play_next.field-0.0 (Illegal i) c.from_residual.result c.from_residual.ensures e)) in
    least_illegal setting c.args.events.now c.loop-i.i i c.index-events-i.result c.loop-i-test.true c.index-events-i.is played.legal told.1 told.0

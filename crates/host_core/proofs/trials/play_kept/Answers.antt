use Rattle.std.proofs.Common.{◌≡◌, ◌∙◌, ◌+◌, false, Err, ap, subst, reverse}
use Rattle.rig_model.specs.Legal.{is_legal}
use Rattle.host_core.specs.declared.plays.PlayFault.TheVariants.{Illegal}
use Rattle.host_core.specs.inner.Playing.{IsPlayed}
use Rattle.host_core.proofs.Marks.{illegal_if_first}
use Rattle.host_core.proofs.Played.{passed_on}
use Rattle.host_core.proofs.trials.play_kept.Goals as goal

pub returns-in_err-play_all-clause-illegal : goal.returns-in_err-play_all-clause-illegal
returns-in_err-play_all-clause-illegal c = λ setting is i e.
    let told = c.in_err-play_all.ensures.illegal setting (c.in_ok-stage.ensures setting is) i (ap Err (passed_on c.in_err-play_all.field-0.0 (Illegal i) c.from_residual-in_err-play_all.result c.from_residual-in_err-play_all.ensures e)) in
    subst (λ es. is_legal setting (reverse es) ≡ false) (c.as_slice.ensures.value ∙ c.in_ok-kept.ensures) (illegal_if_first setting c.as_slice.result.now (i + 1) told.illegal_with)

pub returns-clause-played : goal.returns-clause-played
returns-clause-played c = λ setting is.
    subst (λ es. IsPlayed setting (reverse es) c.play_all.new.self.host c.play_all.new.self.texts.items c.play_all.new.self.released.keys) (c.as_slice.ensures.value ∙ c.in_ok-kept.ensures)
    (c.in_ok-play_all.ensures.played setting (c.in_ok-stage.ensures setting is))

use Rattle.std.proofs.Common.{◌≡◌, ◌∙◌, ℕ, Bool, List, [], ◌∷◌, true, false, Err, length, reverse, sym, ap, subst}
use Rattle.std.proofs.lemmas.List.{length-reverse}
use Rattle.rig_model.specs.Legal.{is_legal}
use Rattle.rig_model.specs.Base.{Setting}
use Rattle.rig_model.specs.declared.events.Event.{Event}
use Rattle.host_core.specs.declared.trials.Flow.{Flow}
use Rattle.host_core.specs.declared.plays.PlayFault.TheVariants.{Illegal}
use Rattle.host_core.specs.inner.Trials.{AllLeadBack, marked, marks_from}
use Rattle.host_core.proofs.Marks.{as_many_marks}
use Rattle.host_core.proofs.Played.{passed_on}
use Rattle.host_core.proofs.Stages.{are_both, is_setting_of, kept_plays, setting_of}
use Rattle.host_core.proofs.trials.play_both.Goals as goal

-- marks that were made from a slice of the notes
by_notes : (setting : Setting) (events : List Event) (t : ℕ) (noted slice : List (List Flow)) (marks : List Bool) → slice ≡ noted → AllLeadBack setting (reverse events) (reverse noted)
    → (AllLeadBack setting (reverse events) (reverse slice) → marks ≡ reverse (marks_from setting (t ∷ []) (reverse events))) → marks ≡ reverse (marks_from setting (t ∷ []) (reverse events))
by_notes setting events t noted slice marks same lead are = are (subst (λ notes. AllLeadBack setting (reverse events) (reverse notes)) (sym same) lead)

pub returns-in_err-whole-clause-illegal : goal.returns-in_err-whole-clause-illegal
returns-in_err-whole-clause-illegal c = λ setting is i e.
    c.in_err-whole.ensures.illegal setting is i (ap Err (passed_on c.in_err-whole.field-0.0 (Illegal i) c.from_residual.result c.from_residual.ensures e))

pub play_kept-requires : goal.play_kept-requires
play_kept-requires c =
    let setting : Setting = setting_of c.args.config.now in
    let past = reverse c.args.events.now in
    ap length (c.as_slice-2.ensures.value ∙ by_notes setting c.args.events.now c.args.tenant c.in_ok-whole.flows.items c.as_slice.result.now c.in_ok-stays.stays.items c.as_slice.ensures.value (c.in_ok-whole.ensures.flows setting (is_setting_of c.args.config.now)) (c.in_ok-stays.ensures setting))
    ∙ (length-reverse (marks_from setting (c.args.tenant ∷ []) past) ∙ (as_many_marks setting past (c.args.tenant ∷ []) ∙ length-reverse c.args.events.now))

pub returns-in_err-kept-clause-illegal : goal.returns-in_err-kept-clause-illegal
returns-in_err-kept-clause-illegal c = λ setting is i e.
    let illegal = c.in_err-kept.ensures.illegal setting is i (ap Err (passed_on c.in_err-kept.field-0.0 (Illegal i) c.from_residual-in_err-kept.result c.from_residual-in_err-kept.ensures e)) in
    let legal = kept_plays setting c.args.events.now c.args.tenant c.in_ok-stays.stays.items c.in_ok-whole.whole.host c.in_ok-whole.whole.texts.items c.in_ok-whole.whole.released.keys
    (c.in_ok-whole.ensures.played setting is) (by_notes setting c.args.events.now c.args.tenant c.in_ok-whole.flows.items c.as_slice.result.now c.in_ok-stays.stays.items c.as_slice.ensures.value (c.in_ok-whole.ensures.flows setting is) (c.in_ok-stays.ensures setting)) in
    let bad : true ≡ false = sym legal ∙ (ap (λ ms. is_legal setting (reverse (marked c.args.events.now ms))) (sym c.as_slice-2.ensures.value) ∙ illegal) in
    absurd (cc)

pub returns-clause-both : goal.returns-clause-both
returns-clause-both c = λ setting is.
    are_both setting c.args.events.now c.args.tenant c.in_ok-whole.whole c.in_ok-kept.kept c.in_ok-stays.stays.items c.as_slice-2.result.now (c.in_ok-whole.ensures.played setting is)
    (by_notes setting c.args.events.now c.args.tenant c.in_ok-whole.flows.items c.as_slice.result.now c.in_ok-stays.stays.items c.as_slice.ensures.value (c.in_ok-whole.ensures.flows setting is) (c.in_ok-stays.ensures setting)) c.as_slice-2.ensures.value (c.in_ok-kept.ensures.played setting is)

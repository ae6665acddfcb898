use Rattle.std.proofs.Common.{◌<◌, Err, length, ap, arith}
use Rattle.rig_model.specs.config.Roster.{Rig}
use Rattle.host_core.specs.declared.plays.PlayFault.TheVariants.{Illegal}
use Rattle.host_core.specs.inner.Trials.{AreBoth}
use Rattle.host_core.proofs.Played.{passed_on}
use Rattle.host_core.proofs.Stages.{is_setting_of, is_trial, same_texts, setting_of}
use Rattle.host_core.proofs.trials.trial_outcome.Goals as goal

pub returns-in_err-both-clause-illegal : goal.returns-in_err-both-clause-illegal
returns-in_err-both-clause-illegal c = λ setting is i e.
    c.in_err-both.ensures.illegal setting is i (ap Err (passed_on c.in_err-both.field-0.0 (Illegal i) c.from_residual.result c.from_residual.ensures e))

pub answer-requires : goal.answer-requires
answer-requires c =
    let both : AreBoth _ _ _ _ _ _ = c.in_ok-both.ensures.both (setting_of c.args.config.now) (is_setting_of c.args.config.now) in
    omega (arith, c.if-tenant-tenants.false, ap length c.tenants.ensures.value, both.of_whole.as_many)

pub answer-requires-2 : goal.answer-requires-2
answer-requires-2 c =
    let both : AreBoth _ _ _ _ _ _ = c.in_ok-both.ensures.both (setting_of c.args.config.now) (is_setting_of c.args.config.now) in
    omega (arith, c.if-tenant-tenants.false, ap length c.tenants.ensures.value, both.of_kept.as_many)

pub returns-clause-answers : goal.returns-clause-answers
returns-clause-answers c = λ setting is.
    let within : c.args.tenant < length setting.config.tenants = omega (arith, c.if-tenant-tenants.false, ap length c.tenants.ensures.value, ap (λ (k : Rig). length k.tenants) is.same_config) in
    is_trial setting c.args.events.now c.args.tenant c.in_ok-both.both.whole c.in_ok-both.both.kept c.in_ok-both.both.stays.items c.answer.result c.answer-2.result
    (c.in_ok-both.ensures.both setting is) within c.answer.ensures c.answer-2.ensures

pub returns-clause-same : goal.returns-clause-same
returns-clause-same c =
    same_texts (setting_of c.args.config.now) c.args.events.now c.args.tenant c.answer.result c.answer-2.result c.in_ok-both.both.stays.items
    (returns-clause-answers c (setting_of c.args.config.now) (is_setting_of c.args.config.now))

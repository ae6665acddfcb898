use Rattle.std.proofs.Common.{Err, ap}
use Rattle.host_core.specs.declared.plays.PlayFault.TheVariants.{Illegal}
use Rattle.host_core.proofs.Played.{passed_on}
use Rattle.host_core.proofs.trials.trial.Goals as goal

pub returns-in_err-outcome-clause-illegal : goal.returns-in_err-outcome-clause-illegal
returns-in_err-outcome-clause-illegal c = λ setting is i e.
    c.in_err-outcome.ensures.illegal setting is i (ap Err (passed_on c.in_err-outcome.field-0.0 (Illegal i) c.from_residual.result c.from_residual.ensures e))

pub returns-clause-answers : goal.returns-clause-answers
returns-clause-answers c = λ setting is. (c.in_ok-outcome.outcome.stays.items, c.in_ok-outcome.ensures.answers setting is)

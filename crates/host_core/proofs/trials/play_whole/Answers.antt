use Rattle.std.proofs.Common.{Err, ap}
use Rattle.host_core.specs.declared.plays.PlayFault.TheVariants.{Illegal}
use Rattle.host_core.proofs.Played.{passed_on}
use Rattle.host_core.proofs.trials.play_whole.Goals as goal

pub returns-in_err-flows-clause-illegal : goal.returns-in_err-flows-clause-illegal
returns-in_err-flows-clause-illegal c = λ setting is i e.
    c.in_err-flows.ensures.illegal setting (c.in_ok-stage.ensures setting is) i (ap Err (passed_on c.in_err-flows.field-0.0 (Illegal i) c.from_residual-in_err-flows.result c.from_residual-in_err-flows.ensures e))

pub returns-clause-played : goal.returns-clause-played
returns-clause-played c = λ setting is. c.in_ok-flows.ensures.played setting (c.in_ok-stage.ensures setting is)

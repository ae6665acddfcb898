use Rattle.std.proofs.Common.{Err, ap, take, reverse}
use Rattle.host_core.specs.declared.plays.PlayFault.TheVariants.{Illegal}
use Rattle.host_core.proofs.Played.{least_illegal, passed_on}
use Rattle.host_core.proofs.trials.play_noting.Goals as goal

pub returns-in_err-play_next-clause-illegal : goal.returns-in_err-play_next-clause-illegal
returns-in_err-play_next-clause-illegal c = λ setting is i e.
    let past = reverse (take c.loop-i.i c.args.events.now) in
    let played = c.loop-i.invariant.played setting is in
    let told = c.in_err-play_next.ensures.illegal setting past played i (ap Err (passed_on c.in_err-play_next.field-0.0 (Illegal i) c.from_residual-in_err-play_next.result c.from_residual-in_err-play_next.ensures e)) in
    least_illegal setting c.args.events.now c.loop-i.i i c.index-events-i.result c.loop-i-test.true c.index-events-i.is played.legal told.1 told.0

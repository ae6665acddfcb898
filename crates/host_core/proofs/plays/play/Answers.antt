use Rattle.std.proofs.Common.{◌≡◌, Err, ap}
use Rattle.host_core.specs.declared.plays.PlayFault.{PlayFault}
use Rattle.host_core.specs.declared.plays.PlayFault.TheVariants.{Illegal}
use Rattle.host_core.proofs.plays.play.Goals as goal

pub returns-in-Err-clause-illegal : goal.returns-in-Err-clause-illegal
returns-in-Err-clause-illegal c = λ setting is i e.
    let same : c.in-Err.fault ≡ Illegal i = cc in
    c.in-Err.ensures.illegal setting (c.in_ok-stage.ensures setting is) i (ap (λ (f : PlayFault). Err f) same)

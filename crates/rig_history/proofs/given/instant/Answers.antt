use Rattle.std.proofs.Common.{◌≡◌, ◌<◌, ◌-◌, ◌^◌, length, ap, ◌∙◌, arith}
use Rattle.rig_history.proofs.Giving.{instant_given}
use Rattle.rig_model.specs.config.Roster.{Rig}
use Rattle.rig_history.proofs.given.instant.Goals as goal

pub returns-in-Ok : goal.returns-in-Ok
returns-in-Ok c =
    let lines : length c.args.frame.now ≡ c.args.host.now.config.lines = c.if-frame-lines.false ∙ (c.lines.ensures.value ∙ ap (λ (rig : Rig). rig.lines) c.config.ensures) in
    let is = c.clock.ensures in
    let not = c.if-clock-eq18446744073709551615.false in
    let inv = c.clock.type_inv in
    let below : c.args.host.now.clock < 2 ^ 64 - 1 = omega (arith, is, not, inv) in
    instant_given c.args.host.now _ c.in_ok-copy.copy c.args.frame.now c.in_ok-copy.ensures.same lines below c.in-Ok.ensures.step

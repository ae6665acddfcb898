use Rattle.std.proofs.Common.{Some, ap, sym, ◌∙◌}
use Rattle.std.proofs.lemmas.Option.{slice_get-get_or}
use Rattle.rig_model.specs.text.Program.{GiottoProgram}
use Rattle.tenant_slots.proofs.ActuatorPlaces.{actuator_first, actuator_once}
use Rattle.tenant_slots.proofs.actuators.actuator_place.Goals as goal

pub returns-in-Some : goal.returns-in-Some
returns-in-Some c =
    let all = c.actuators-actuators.ensures ∙ ap (λ (p : GiottoProgram). p.actuators) c.program.ensures.tree in
    let found = rw c.in-Some.is at c.get.ensures.lookup in
    let there = slice_get-get_or c.actuators-actuators.result.now c.args.hint c.in-Some.actuator.now found.3.0 ∙ ap Some (sym found.1) in
    actuator_once c.args.checked.now c.program.ensures.fits c.args.name.now c.actuators-actuators.result.now all c.args.hint c.in-Some.actuator.now there
    (sym c.eq.ensures ∙ c.if-eq.true)

pub returns-in_default : goal.returns-in_default
returns-in_default c =
    let all = c.actuators-actuators.ensures ∙ ap (λ (p : GiottoProgram). p.actuators) c.program.ensures.tree in
    c.first_place.ensures ∙ actuator_first c.args.checked.now c.program.ensures.fits c.args.name.now c.actuators-actuators.result.now all

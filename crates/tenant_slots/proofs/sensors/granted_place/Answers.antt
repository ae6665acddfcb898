use Rattle.std.proofs.Common.{Some, ap, sym, ◌∙◌}
use Rattle.std.proofs.lemmas.Option.{slice_get-get_or}
use Rattle.rig_model.specs.text.Program.{GiottoProgram}
use Rattle.tenant_slots.proofs.cited.Granted.{granted_first, granted_once}
use Rattle.tenant_slots.proofs.sensors.granted_place.Goals as goal

pub returns-in-Some : goal.returns-in-Some
returns-in-Some c =
    let all = c.sensors-sensors.ensures ∙ ap (λ (p : GiottoProgram). p.sensors) c.program.ensures.tree in
    let found = rw c.in-Some.is at c.get.ensures.lookup in
    let there = slice_get-get_or c.sensors-sensors.result.now c.args.hint c.in-Some.sensor.now found.3.0 ∙ ap Some (sym found.1) in
    granted_once c.args.checked.now c.args.name.now c.program.ensures.fits.ports_once c.sensors-sensors.result.now all c.args.hint c.in-Some.sensor.now there
    (sym c.takes_granted.ensures ∙ c.if-takes_granted.true)

pub returns-in_default : goal.returns-in_default
returns-in_default c =
    let all = c.sensors-sensors.ensures ∙ ap (λ (p : GiottoProgram). p.sensors) c.program.ensures.tree in
    c.first_granted.ensures ∙ granted_first c.args.checked.now c.args.name.now c.program.ensures.fits.ports_once c.sensors-sensors.result.now all

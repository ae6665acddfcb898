use Rattle.std.proofs.Common.{sym, ◌∙◌, arith}
use Rattle.giotto_tasks.specs.Names.{same_name}
use Rattle.rig_model.specs.declared.text.programs.Actuator.{Actuator}
use Rattle.rig_model.specs.declared.text.programs.Output.{Output}
use Rattle.giotto_check.proofs.cited.PlaceLemmas.{place_within}
use Rattle.tenant_slots.proofs.SharedSlots.{actuator_slot, no_slot, output_slot, sensor_slot, shared_within}
use Rattle.tenant_slots.proofs.names.shared_slot.Goals as goal

pub returns-in-Some : goal.returns-in-Some
returns-in-Some c =
    sym (sensor_slot c.program-program.result.now c.args.checked.now c.program-program.ensures.tree c.args.name.now c.sensors-sensors.result.now c.actuators-actuators.result.now c.outputs-outputs.result.now
    c.sensors-sensors.ensures c.actuators-actuators.ensures c.outputs-outputs.ensures c.in-Some.place (sym c.sensor_place.ensures ∙ c.in-Some.is))

pub overflow_add-result : goal.overflow_add-result
overflow_add-result c =
    omega (
      arith,
      c.known.ensures.countable,
      place_within (λ (a : Actuator). same_name a.name c.args.name.now) 0 c.actuators-actuators.result.now c.in-Some-actuator_place.place (sym c.actuator_place.ensures ∙ c.in-Some-actuator_place.is),
      shared_within c.program-program.result.now c.args.checked.now c.program-program.ensures.tree c.args.name.now c.sensors-sensors.result.now c.actuators-actuators.result.now c.outputs-outputs.result.now
          c.sensors-sensors.ensures c.actuators-actuators.ensures c.outputs-outputs.ensures,
    )

pub returns-in-Some-actuator_place : goal.returns-in-Some-actuator_place
returns-in-Some-actuator_place c =
    sym (actuator_slot c.program-program.result.now c.args.checked.now c.program-program.ensures.tree c.args.name.now c.sensors-sensors.result.now c.actuators-actuators.result.now c.outputs-outputs.result.now
    c.sensors-sensors.ensures c.actuators-actuators.ensures c.outputs-outputs.ensures (sym c.sensor_place.ensures ∙ c.in_default.is) c.in-Some-actuator_place.place
    (sym c.actuator_place.ensures ∙ c.in-Some-actuator_place.is))

pub overflow_add-result-in-Some-output_place-2 : goal.overflow_add-result-in-Some-output_place-2
overflow_add-result-in-Some-output_place-2 c =
    omega (
      arith,
      c.known.ensures.countable,
      place_within (λ (o : Output). same_name o.name c.args.name.now) 0 c.outputs-outputs.result.now c.in-Some-output_place.place (sym c.output_place.ensures ∙ c.in-Some-output_place.is),
      shared_within c.program-program.result.now c.args.checked.now c.program-program.ensures.tree c.args.name.now c.sensors-sensors.result.now c.actuators-actuators.result.now c.outputs-outputs.result.now
          c.sensors-sensors.ensures c.actuators-actuators.ensures c.outputs-outputs.ensures,
    )

pub returns-in-Some-output_place : goal.returns-in-Some-output_place
returns-in-Some-output_place c =
    sym (output_slot c.program-program.result.now c.args.checked.now c.program-program.ensures.tree c.args.name.now c.sensors-sensors.result.now c.actuators-actuators.result.now c.outputs-outputs.result.now
    c.sensors-sensors.ensures c.actuators-actuators.ensures c.outputs-outputs.ensures (sym c.sensor_place.ensures ∙ c.in_default.is) (sym c.actuator_place.ensures ∙ c.in_default-actuator_place.is)
    c.in-Some-output_place.place (sym c.output_place.ensures ∙ c.in-Some-output_place.is))

pub returns-in-None : goal.returns-in-None
returns-in-None c =
    sym (no_slot c.program-program.result.now c.args.checked.now c.program-program.ensures.tree c.args.name.now c.sensors-sensors.result.now c.actuators-actuators.result.now c.outputs-outputs.result.now
    c.sensors-sensors.ensures c.actuators-actuators.ensures c.outputs-outputs.ensures (sym c.sensor_place.ensures ∙ c.in_default.is) (sym c.actuator_place.ensures ∙ c.in_default-actuator_place.is)
    (sym c.output_place.ensures ∙ c.in-None.is))

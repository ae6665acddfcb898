use Rattle.std.proofs.Common.{length, sym, ap, ◌∙◌}
use Rattle.std.proofs.lemmas.List.{length-map}
use Rattle.rig_model.specs.text.Program.{GiottoProgram}
use Rattle.rig_model.specs.text.ProgramTrees.{actuator_of, sensor_of}
use Rattle.tenant_slots.proofs.CarryTables.{actuator_by_slot, none_before}
use Rattle.tenant_slots.proofs.replacement.is_actuator.Goals as goal

pub returns-then-slot-sensors : goal.returns-then-slot-sensors
returns-then-slot-sensors c = λ x at.
    actuator_by_slot c.args.checked.now x c.args.slot at c.program.ensures.fits (length c.sensors-sensors.result.now) (length c.actuators-actuators.result.now)
    (sym (length-map c.sensors-sensors.result.now sensor_of) ∙ ap length (c.sensors-sensors.ensures ∙ ap (λ (q : GiottoProgram). q.sensors) c.program.ensures.tree))
    (sym (length-map c.actuators-actuators.result.now actuator_of) ∙ ap length (c.actuators-actuators.ensures ∙ ap (λ (q : GiottoProgram). q.actuators) c.program-2.ensures.tree)) c.if-slot-sensors.true

pub returns-else-slot-sensors : goal.returns-else-slot-sensors
returns-else-slot-sensors c = λ x at.
    none_before c.args.checked.now x c.args.slot at c.program.ensures.fits (length c.sensors-sensors.result.now)
    (sym (length-map c.sensors-sensors.result.now sensor_of) ∙ ap length (c.sensors-sensors.ensures ∙ ap (λ (q : GiottoProgram). q.sensors) c.program.ensures.tree)) c.if-slot-sensors.false

use Rattle.std.proofs.Common.{length, sym, ap, ◌∙◌}
use Rattle.std.proofs.lemmas.List.{length-map}
use Rattle.rig_model.specs.text.Program.{GiottoProgram}
use Rattle.rig_model.specs.text.ProgramTrees.{sensor_of}
use Rattle.tenant_slots.proofs.CarryTables.{sensor_by_slot}
use Rattle.tenant_slots.proofs.replacement.is_sensor.Goals as goal

pub returns : goal.returns
returns c = λ x at.
    sensor_by_slot c.args.checked.now x c.args.slot at (length c.sensors.result.now)
    (sym (length-map c.sensors.result.now sensor_of) ∙ ap length (c.sensors.ensures ∙ ap (λ (q : GiottoProgram). q.sensors) c.program.ensures.tree))

use Rattle.std.proofs.Common.{[], ap, ◌∙◌, arith, w64}
use Rattle.std.proofs.lemmas.List.{length-set}
use Rattle.std.proofs.lemmas.Int.{to_z-of_z}
use Rattle.rig_model.specs.text.Program.{GiottoProgram}
use Rattle.rig_model.specs.Readings.{readings_within, reading_taken}
use Rattle.tenant_slots.proofs.SensedSlots.{sensed_next}
use Rattle.tenant_slots.proofs.sensors.sense.Goals as goal

pub loop-i-preserved : goal.loop-i-preserved
loop-i-preserved c =
    let p = c.args.checked.now in
    let taken = reading_taken (readings_within c.args.budgets.now.reads c.args.frame.now) [] in
    let fits = c.program.ensures.fits in
    let all = c.sensors-sensors.ensures ∙ ap (λ (p : GiottoProgram). p.sensors) c.program.ensures.tree in
    record {
      long = length-set c.loop-i.values c.loop-i.i _ ∙ c.loop-i.invariant.long;
      written = sensed_next p c.loop-i.values taken c.sensors-sensors.result.now c.loop-i.i c.index-sensors-i.result _ _ fits.ports_once c.loop-i.invariant.long all c.index-sensors-i.is (omega (arith, c.loop-i-test.true)) (to_z-of_z w64 c.reading.result (record { sfits = c.reading.type_inv }) ∙ c.reading.ensures) c.loop-i.invariant.written;
    }

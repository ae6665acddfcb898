use Rattle.std.proofs.Common.{length, ap, ◌∙◌, arith}
use Rattle.giotto_check.specs.Slots.{valuation_of}
use Rattle.tenant_slots.proofs.TaskValues.{row_within, row_written, of_task}
use Rattle.tenant_slots.proofs.tasks.write_inputs.Goals as goal

pub write_range-requires : goal.write_range-requires
write_range-requires c = λ i lt.
    let found = c.slots_at.ensures.slots in
    let many = ap length c.as_slice.ensures.value ∙ c.requires.inputs found.0 found.1 in
    omega (arith, c.requires.values, row_within c.args.checked.now found.0.name found.0.inputs c.slots_at.result.now.inputs i found.2.inputs (omega (arith, lt, many)))

pub returns : goal.returns
returns c = λ t at.
    let p = c.args.checked.now in
    let slots = of_task p _ t _ c.slots_at.ensures.slots at in
    let inputs = rw (c.as_slice.ensures.value) at c.write_range.ensures in
    ap (valuation_of p) inputs ∙ row_written p c.slots_at.ensures.fits c.args.values.now c.requires.values t.name t.inputs c.slots_at.result.now.inputs c.args.inputs.now slots.inputs (c.requires.inputs t at)

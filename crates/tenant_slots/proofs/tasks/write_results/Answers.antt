use Rattle.std.proofs.Common.{◌≡◌, ◌<◌, length, subst, sym, ap, ◌∙◌, arith}
use Rattle.std.specs.List.{AllByRecursion}
use Rattle.std.proofs.lemmas.List.{length-map}
use Rattle.rig_model.specs.text.PortNames.{own_ports, with_values}
use Rattle.giotto_tasks.specs.Syntax.{TaskBody}
use Rattle.rig_model.specs.text.Program.{GiottoProgram, names_of}
use Rattle.giotto_check.specs.Slots.{valuation_of}
use Rattle.tenant_slots.proofs.TaskValues.{row_within, row_written, of_task, all_within, all_written_at, outputs_named}
use Rattle.tenant_slots.proofs.tasks.write_results.Goals as goal

pub write_each-requires : goal.write_each-requires
write_each-requires c =
    let found = c.slots_at-slots.ensures.slots in
    subst (AllByRecursion (λ k. k < length c.args.values.now)) (sym c.as_slice.ensures.value) (all_within c.args.checked.now (length c.args.values.now) found.0.outputs _ c.requires.values found.2.outputs)

pub write_range-requires : goal.write_range-requires
write_range-requires c = λ i lt.
    let p = c.args.checked.now in
    let found = c.slots_at-slots.ensures.slots in
    let names = names_of found.0.states in
    let many : length c.as_slice-3.result.now ≡ length names = ap length c.as_slice-3.ensures.value ∙ c.requires.states found.0 found.1 ∙ sym (length-map found.0.states _) in
    omega (arith, c.write_each.auto.values, c.requires.values, row_within p found.0.name names c.slots_at-slots.result.now.states i found.2.states (omega (arith, lt, many)))

pub returns-clause-written : goal.returns-clause-written
returns-clause-written c = λ t at.
    let p = c.args.checked.now in
    let fits = c.slots_at-slots.ensures.fits in
    let entry = c.slots_at-slots.result.now in
    let slots = of_task p _ t entry c.slots_at-slots.ensures.slots at in
    let names = names_of t.states in
    let outputs = rw (c.as_slice.ensures.value, c.as_slice-2.ensures.value) at c.write_each.ensures in
    let states = rw (c.as_slice-3.ensures.value) at c.write_range.ensures in
    ap (valuation_of p) states ∙ row_written p fits c.write_each.new.values (c.write_each.auto.values ∙ c.requires.values) t.name names entry.states c.args.states.now slots.states (c.requires.states t at ∙ sym (length-map t.states _))
    ∙ ap (λ ports. with_values ports (own_ports t.name names) c.args.states.now)
    (ap (valuation_of p) outputs ∙ all_written_at p fits c.args.values.now c.requires.values t.outputs entry.outputs.items c.args.outputs.now slots.outputs)

pub returns-clause-noted : goal.returns-clause-noted
returns-clause-noted c = λ t at.
    let p = c.args.checked.now in
    let body = ap (λ (b : TaskBody). b.outputs) (c.body.view_is ∙ c.deref-body.ensures) in
    let named = outputs_named p c.tasks.result.now c.args.task c.index-tasks-task.result t (c.tasks.ensures ∙ ap (λ (q : GiottoProgram). q.tasks) c.program.ensures.tree) at in
    let names : c.as_slice-4.result.now ≡ t.outputs = c.as_slice-4.ensures ∙ body ∙ named in
    rw (names, c.as_slice-5.ensures.value) at c.note_outputs.ensures

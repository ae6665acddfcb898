use Rattle.std.proofs.Common.{◌≡◌, Some, length, take, drop, slice_get, sym, ap, ◌∙◌, arith}
use Rattle.rig_model.specs.text.Program.{TaskDeclaration, GiottoProgram, body_of, names_of}
use Rattle.giotto_tasks.proofs.cited.SoundLemmas.{sound_small}
use Rattle.tenant_slots.proofs.cited.Numbered.{task_fits_at}
use Rattle.tenant_slots.proofs.TaskValues.{states_counted, row_within, row_read, of_task}
use Rattle.tenant_slots.proofs.tasks.state_values.Goals as goal

counted : (c : goal.After-read_range-arg-1) (t : TaskDeclaration) → slice_get c.args.checked.now.tasks c.args.task ≡ Some t → length c.as_slice-states.result.now ≡ length (names_of t.states)
counted c t at =
    let p = c.args.checked.now in
    ap length c.as_slice-states.ensures ∙ states_counted p c.tasks.result.now c.args.task _ t (c.tasks.ensures ∙ ap (λ (q : GiottoProgram). q.tasks) c.program.ensures.tree) at

pub read_range-requires-clause-few : goal.read_range-requires-clause-few
read_range-requires-clause-few c =
    let p = c.args.checked.now in
    let found = c.slots_at.ensures.slots in
    omega (arith, counted c found.0 found.1, (sound_small (body_of found.0) (task_fits_at p c.program.ensures.fits c.args.task found.0 found.1).sound).states)

pub read_range-requires-clause-there : goal.read_range-requires-clause-there
read_range-requires-clause-there c = λ i lt.
    let p = c.args.checked.now in
    let found = c.slots_at.ensures.slots in
    omega (arith, c.requires.values, row_within p found.0.name (names_of found.0.states) c.slots_at.result.now.states i found.2.states (omega (arith, lt, counted c found.0 found.1)))

pub returns : goal.returns
returns c = λ t at.
    let p = c.args.checked.now in
    let values = c.args.values.now in
    let first = c.slots_at.result.now.states in
    c.read_range.ensures ∙ ap (λ n. take n (drop first values)) (counted c.before t at)
    ∙ sym (row_read p c.program.ensures.fits values c.requires.values t.name (names_of t.states) first (of_task p _ t _ c.slots_at.ensures.slots at).states)

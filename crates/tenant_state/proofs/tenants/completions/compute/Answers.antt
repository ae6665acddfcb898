use Rattle.std.proofs.Common.{Some, ◌&&◌, cond, sym, ◌∙◌}
use Rattle.giotto_tasks.specs.Syntax.{TaskBody}
use Rattle.tenant_jobs.specs.Finished.{entry_in}
use Rattle.tenant_jobs.specs.cited.Finished.{result_of}
use Rattle.rig_model.specs.Jobs.{same_job}
use Rattle.rig_model.specs.declared.jobs.JobId.{JobId}
use Rattle.tenant_state.proofs.Completing.{body_is, fits_body, sound_body}
use Rattle.tenant_state.proofs.tenants.completions.compute.Goals as goal

pub compute-requires-clause-states : goal.compute-requires-clause-states
compute-requires-clause-states c = rw (c.deref.ensures) ((fits_body c.args.checked.now c.args.active.now c.declared-task.result.now c.declared-task.ensures.task c.requires.active).1)

pub compute-requires-clause-sound : goal.compute-requires-clause-sound
compute-requires-clause-sound c = rw (c.deref.ensures) (sound_body c.args.checked.now c.args.active.now c.declared-task.result.now c.declared-task.ensures.task c.declared-task.ensures.fits)

pub returns-clause-entries : goal.returns-clause-entries
returns-clause-entries c = λ j.
    let a = c.args.active.now in
    let body = c.deref.ensures ∙ sym (body_is c.args.checked.now a c.declared-task.result.now c.declared-task.ensures.task c.declared-task.ensures.fits) in
    let found = λ (i : JobId) (b : TaskBody). cond (c.compute.result && same_job i j)
    (Some (record { id = j; result = Some (result_of (record { id = j; body = b; inputs = a.inputs; states = a.states })) })) (entry_in c.args.finished.now.entries j) in
    c.compute.ensures.entries j ∙ λ k. found (c.job_id-id.ensures k) (body k)

use Rattle.std.proofs.Common.{◌≡◌, [], ap, sym, subst, ◌∙◌}
use Rattle.std.specs.Prelude.{IfSome, option_copied, slice_get}
use Rattle.std.specs.Option.{option_map_or}
use Rattle.tenant_slots.specs.well_formed.Slots.{valuation_of}
use Rattle.rig_model.specs.text.PortNames.{own_ports, with_values}
use Rattle.rig_model.specs.text.Program.{names_of}
use Rattle.tenant_jobs.specs.cited.Finished.{result_of}
use Rattle.tenant_slots.proofs.cited.Numbered.{task_here}
use Rattle.rig_model.specs.FirstHalf.{ended_with, outputs_of_end, outputs_happened}
use Rattle.rig_model.specs.trace.cited.Noted.{noted}
use Rattle.tenant_state.specs.Jobs.{job_in}
use Rattle.tenant_state.specs.Tenants.{active_of}
use Rattle.tenant_state.proofs.EndedTasks.{result_here, some_of}
use Rattle.tenant_state.proofs.tenants.phase_one.end.Goals as goal
use Rattle.tenant_state.proofs.tenants.phase_one.end.Goals.{In-Some}

-- the result that came is that of the job
right : (c : In-Some) → c.in-Some.result.now ≡ result_of (job_in c.args.ending.now.checked.now c.args.ending.now.tenant (active_of c.args.ending.now.checked.now c.args.active.now))
right c =
    let came = sym c.result_of.ensures ∙ ap option_copied c.in-Some.is in
    subst (λ o. IfSome o (λ r. r ≡ result_of (job_in c.args.ending.now.checked.now c.args.ending.now.tenant (active_of c.args.ending.now.checked.now c.args.active.now)))) came c.requires.right

pub write_results-requires-clause-states : goal.write_results-requires-clause-states
write_results-requires-clause-states c = λ t at. (result_here c.args.ending.now.checked.now c.known.ensures.fits c.args.ending.now.tenant c.args.active.now t at c.in-Some.result.now (right (goal.at.write_results-requires-clause-states c).In-Some)).2

pub returns : goal.returns
returns c =
    let p = c.args.ending.now.checked.now in
    let a = c.args.active.now in
    let ports = valuation_of p c.args.values.now in
    let there = some_of (slice_get p.tasks a.task) c.requires.active in
    let t = there.0 in
    let is = result_here p c.known.ensures.fits c.args.ending.now.tenant a t there.1 c.in-Some.result.now (right (goal.at.returns c).In-Some) in
    record {
      ended = c.write_results.ensures.written t there.1
          ∙ (λ k. with_values (with_values ports t.outputs (is.0 k)) (own_ports t.name (names_of t.states)) (is.1 k))
          ∙ sym (ap (λ o. option_map_or (ended_with (active_of p a) ports) o ports) (task_here p c.known.ensures.fits a.task t there.1));
      noted = c.write_results.ensures.noted t there.1
          ∙ ap (λ zs. noted c.args.ending.now.tick (outputs_happened t.outputs zs) c.args.trace.now) is.0
          ∙ sym (ap (λ o. noted c.args.ending.now.tick (option_map_or (outputs_of_end (active_of p a)) o []) c.args.trace.now) (task_here p c.known.ensures.fits a.task t there.1));
    }

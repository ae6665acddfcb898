use Rattle.std.proofs.Common.{sym, ap, ◌∙◌}
use Rattle.rig_model.specs.FirstHalf.{due_tasks, unfinished_tasks}
use Rattle.rig_model.specs.Jobs.{job_of}
use Rattle.tenant_jobs.specs.Finished.{has_result}
use Rattle.tenant_state.specs.Standing.{StandsFor}
use Rattle.tenant_state.proofs.cited.NoneDue.{none_due_after}
use Rattle.tenant_state.proofs.tenants.Tenant.phase_one.Goals as goal

pub returns-clause-none_due : goal.returns-clause-none_due
returns-clause-none_due c =
    let s = c.args.self.now in
    let own : StandsFor s s.row = λ k. record s.row { records = sym c.known.ensures.row.few_records k } in
    ap due_tasks (c.first_half.ensures.half.step s.row own) ∙ none_due_after (unfinished_tasks (λ a. has_result c.args.finished.now.entries (job_of s.tenancy.owner.place a)) s.row) s.row

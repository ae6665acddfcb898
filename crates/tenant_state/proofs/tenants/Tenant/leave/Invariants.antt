use Rattle.std.proofs.Common.{◌≡◌, ◌≤◌, cond, map, drop, None}
use Rattle.rig_model.specs.declared.jobs.JobId.{JobId}
use Rattle.tenant_jobs.specs.Finished.{entry_in}
use Rattle.rig_model.specs.Jobs.{has_job}
use Rattle.tenant_state.specs.Tenants.{active_of}
use Rattle.tenant_state.proofs.tenants.Tenant.leave.Given as goal

abbrev pub invariant-loop-active : goal.invariant-loop-active
invariant-loop-active l =
    let tasks = map (active_of l.checked) l.active-items in
    let t = l.fn.self.tenancy.owner.place in
    record {
      entries : (j : JobId) → cond (has_job t (drop l.active-index tasks) j) None (entry_in l.finished.entries j) ≡ cond (has_job t tasks j) None (entry_in l.initial.finished.entries j);
      room : l.initial.finished.room ≤ l.finished.room;
      none : l.active-index ≡ 0 → l.finished ≡ l.initial.finished;
    }

use Rattle.std.proofs.Common.{◌≡◌, ◌+◌, cond, map, length, drop, Some, None}
use Rattle.rig_model.specs.declared.jobs.JobId.{JobId}
use Rattle.tenant_jobs.specs.Finished.{entry_in}
use Rattle.rig_model.specs.Jobs.{has_job}
use Rattle.tenant_state.specs.Tenants.{active_of}
use Rattle.tenant_state.proofs.TaskEntries.{AreNew}
use Rattle.tenant_state.proofs.tenants.entries.enter_each.Given as goal

abbrev pub invariant-loop-place : goal.invariant-loop-place
invariant-loop-place l =
    let tasks = map (active_of l.checked) l.fn.active.items in
    record {
      items : l.active-inside.entries.items ≡ l.initial.active-inside.entries.items;
      count : l.active-inside.count ≡ l.initial.active-inside.count;
      ended : l.active-inside.ended ≡ l.initial.active-inside.ended;
      entries : (j : JobId) → cond (has_job l.tenant (drop l.place tasks) j) (Some (record { id = j; result = None })) (entry_in l.finished.entries j)
          ≡ cond (has_job l.tenant (drop l.from tasks) j) (Some (record { id = j; result = None })) (entry_in l.initial.finished.entries j);
      new : AreNew l.tenant l.finished.entries (drop l.place tasks);
      room : l.finished.room + length (drop l.from tasks) ≡ l.initial.finished.room + length (drop l.place tasks);
    }

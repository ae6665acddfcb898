use Rattle.std.proofs.Common.{◌≡◌, ◌≤◌, ◌*◌, ◌-◌, ◌^◌, ◌||◌, take}
use Rattle.std.specs.List.{sum_by}
use Rattle.instant_engine.specs.cited.Tables.{IsTaskTable}
use Rattle.instant_engine.specs.cited.Tenants.{is_active_among}
use Rattle.rig_model.specs.declared.jobs.JobId.{JobId}
use Rattle.instant_engine.specs.job_table.Finished.{has_result}
use Rattle.host_core.proofs.cited.Outstanding.{number_outstanding}
use Rattle.host_core.proofs.hosts.complete_each.Given as goal

abbrev pub invariant-loop-tenant : goal.invariant-loop-tenant
invariant-loop-tenant l = record {
  table : IsTaskTable l.tenants l.finished.entries;
  results : (j : JobId) → has_result l.finished.entries j ≡ (has_result l.initial.finished.entries j || is_active_among (take l.tenant-index l.tenants) j);
  number : l.number ≡ sum_by (number_outstanding l.initial.finished.entries) (take l.tenant-index l.tenants);
  few : l.number ≤ l.tenant-index * (2 ^ 64 - 1);
}

-- The table of the active tasks of all tenants.
use Rattle.std.specs.Prelude.{◌≡◌, List, All}
use Rattle.rig_model.specs.declared.jobs.JobId.{JobId}
use Rattle.tenant_state.specs.job_table.Finished.{TableEntry}
use Rattle.tenant_state.specs.job_table.cited.Finished.{is_entered}
use Rattle.tenant_state.specs.Standing.{Standing}
use Rattle.tenant_state.specs.cited.Standing.{HasItsResults}
use Rattle.instant_engine.specs.cited.Tenants.{is_active_among}

-- the table has an entry for exactly the active tasks of these tenants, and the results that came are those of their jobs
pub record IsTaskTable (tenants : List Standing) (entries : List TableEntry) : Type 0 where
  pub entered : (j : JobId) → is_entered entries j ≡ is_active_among tenants j
  pub results : All (λ (s : Standing). HasItsResults s entries) tenants

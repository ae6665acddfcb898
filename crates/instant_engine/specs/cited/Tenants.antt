-- The rows of all tenants, their roster and their binds, and which tasks are active.
use Rattle.std.specs.Prelude.{◌≡◌, ◌<◌, ℕ, Bool, List, length, drop, take}
use Rattle.std.specs.List.{sum_by}
use Rattle.giotto_tasks.specs.declared.names.Name.{Name}
use Rattle.rig_model.specs.declared.jobs.JobId.{JobId}
use Rattle.rig_model.specs.Jobs.{has_job}
use Rattle.rig_model.specs.Row.{Row}
use Rattle.tenant_state.specs.Standing.{Standing}
use Rattle.instant_engine.specs.Tenants.{tenant_at}

-- whether the task of the job of this name is active, with the job's release
abbrev pub is_active_among : List Standing → JobId → Bool
is_active_among tenants j = has_job (tenant_at tenants j.tenant).tenancy.owner.place (tenant_at tenants j.tenant).row.active j

-- the rows that the tenants' code keeps
abbrev pub rows_of : List Standing → ℕ → Row
rows_of tenants t = (tenant_at tenants t).row

-- the names of all tenants, as the first of them has them
abbrev pub roster_among : List Standing → List Name
roster_among tenants = (tenant_at tenants 0).tenancy.owner.roster

-- all tenants have one roster, and are all that are in it
pub record HaveRoster (tenants : List Standing) : Type 0 where
  pub same : (t : ℕ) → t < length tenants → (tenant_at tenants t).tenancy.owner.roster ≡ roster_among tenants
  pub whole : length (roster_among tenants) ≡ length tenants

-- how many binds all these have
abbrev pub binds_of : List Standing → ℕ
binds_of tenants = sum_by (λ (s : Standing). length s.row.binds) tenants

-- what is granted through the binds of the tenant at place t, if this list has what is granted through all binds, tenant by tenant
abbrev pub granted_at : {A : Type 0} → List Standing → ℕ → List A → List A
granted_at tenants t granted = take (length (rows_of tenants t).binds) (drop (binds_of (take t tenants)) granted)

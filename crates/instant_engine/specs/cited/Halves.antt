-- All tenants of a host, before and after a step of each.
use Rattle.std.specs.Prelude.{◌≡◌, ◌<◌, ◌≤◌, ◌-◌, ◌&&◌, not, ℕ, ℤ, Bool, true, List, Option, length, map, drop}
use Rattle.rig_model.specs.declared.jobs.JobId.{JobId}
use Rattle.tenant_state.specs.job_table.Finished.{TableEntry}
use Rattle.tenant_state.specs.job_table.cited.Finished.{is_entered}
use Rattle.tenant_state.specs.job_table.Jobs.{JobValue}
use Rattle.rig_model.specs.Jobs.{has_job}
use Rattle.tenant_state.specs.Jobs.{released_at}
use Rattle.tenant_state.specs.Standing.{Standing, IsKnown, most_released}
use Rattle.tenant_state.specs.cited.Halves.{IsSecondHalf}
use Rattle.tenant_state.specs.cited.Standing.{HasRoom, HasShares, AreReleased}
use Rattle.instant_engine.specs.cited.Instants.{AreStepped}
use Rattle.rig_model.specs.Granted.{granted_by}
use Rattle.instant_engine.specs.Tenants.{tenant_at}
use Rattle.instant_engine.specs.cited.Tenants.{granted_at, is_active_among, roster_among, rows_of}

-- ready for the next instant
pub record IsReady (s : Standing) : Type 0 where
  pub room : HasRoom s
  pub shares : HasShares s

-- whether the task of the job of this name ended, and its entry is still to leave the table
abbrev pub is_ended_among : List Standing → JobId → Bool
is_ended_among tenants j = has_job (tenant_at tenants j.tenant).tenancy.owner.place (tenant_at tenants j.tenant).ready.ended j

-- the tasks that are reported as ended are those with an entry that are no longer active
abbrev pub AreToldEnded : List Standing → List TableEntry → Type 0
AreToldEnded tenants entries = (j : JobId) → is_ended_among tenants j ≡ (is_entered entries j && not (is_active_among tenants j))

-- the second half of a tenant, what it released, and what is known of the tenant after it
pub record IsSecondHalfAndKnown (frame : List ℤ) (granted : List (Option ℤ)) (before after : Standing) : Type 0 where
  pub half : IsSecondHalf frame granted before after
  pub released : AreReleased before.row after.row
  pub few : length (released_at before.tenancy.owner.place before.row.next_tick after.row) ≤ most_released before.row
  pub shared : before.ready.shared ≡ true → after.ready.shared ≡ true
  pub known : IsKnown after.tenancy after.row
  pub binds : length after.row.binds ≤ after.tenancy.owner.most_binds

-- the second half of all tenants, with what is granted through the binds of each
abbrev pub AreSecondHalves : List ℤ → List (Option ℤ) → List Standing → List Standing → Type 0
AreSecondHalves frame granted before after = AreStepped (λ t. IsSecondHalfAndKnown frame (granted_at before t granted)) before after

-- this list has what is granted through all binds, tenant by tenant, after the first half of all tenants
abbrev pub AreGranted : List Standing → List (Option ℤ) → Type 0
AreGranted tenants granted =
    (t : ℕ) → t < length tenants → granted_at tenants t granted ≡ map (granted_by (roster_among tenants) (rows_of tenants) (rows_of tenants) t) (rows_of tenants t).binds

-- whether the task of the job of this name became active between these two
abbrev pub is_released_among : List Standing → List Standing → JobId → Bool
is_released_among before after j =
    has_job (tenant_at after j.tenant).tenancy.owner.place (drop (length (tenant_at before j.tenant).row.active) (tenant_at after j.tenant).row.active) j

-- the jobs that the tenant's last instant released
abbrev pub last_jobs : Standing → List JobValue
last_jobs s = released_at s.tenancy.owner.place (s.row.next_tick - 1) s.row

-- the shares of the bodies of these jobs are available
abbrev pub CanGiveJobs : Standing → Type 0
CanGiveJobs s = 0 < length (last_jobs s) → s.ready.shared ≡ true

-- An instant of all tenants.
use Rattle.std.specs.Prelude.{◌≡◌, ◌+◌, ◌<◌, ◌≤◌, ℕ, ℤ, List, [], length}
use Rattle.tenant_state.specs.job_table.Finished.{TableEntry, has_result}
use Rattle.rig_model.specs.Instants.{local_instant, LocalInstant, after_instant}
use Rattle.rig_model.specs.Row.{Row}
use Rattle.tenant_state.specs.Standing.{Standing, StandsFor, IsKnown}
use Rattle.instant_engine.specs.Tenants.{tenant_at}
use Rattle.instant_engine.specs.cited.Tenants.{roster_among}

-- what an instant is for the tenant at place t: exactly the tasks with a result in this table are completed
abbrev pub instant_by : List Standing → List ℤ → List TableEntry → (ℕ → Row) → ℕ → LocalInstant
instant_by tenants frame entries rows t = local_instant (roster_among tenants) (tenant_at tenants t).tenancy.budgets.reads rows (has_result entries) frame t

-- a tenant between two instants: what is known of it, it has no more binds than it may have, and no ended task still has an entry in the
-- table of active tasks
pub record IsBetween (s : Standing) : Type 0 where
  pub known : IsKnown s.tenancy s.row
  pub binds : length s.row.binds ≤ s.tenancy.owner.most_binds
  pub rest : s.ready.ended ≡ []

-- a tenant before and after an instant
pub record IsMovedOn (before after : Standing) : Type 0 where
  pub next_tick : after.row.next_tick ≡ before.row.next_tick + 1
  pub tenancy : after.tenancy ≡ before.tenancy
  pub between : IsBetween after

-- all tenants, each of which has taken the step, by its place
pub record AreStepped (step : ℕ → Standing → Standing → Type 0) (before after : List Standing) : Type 0 where
  pub as_many : length after ≡ length before
  pub each : (t : ℕ) → t < length before → step t (tenant_at before t) (tenant_at after t)

-- the tenants represent these rows
abbrev pub StandForRows : List Standing → (ℕ → Row) → Type 0
StandForRows tenants rows = (t : ℕ) → t < length tenants → StandsFor (tenant_at tenants t) (rows t)

-- all tenants before and after an instant: if they represented some rows before, they represent the rows after the instant
pub record AreInstants (frame : List ℤ) (entries : List TableEntry) (before after : List Standing) : Type 0 where
  pub moved : AreStepped (λ t. IsMovedOn) before after
  pub step : (rows : ℕ → Row) → StandForRows before rows → (t : ℕ) → t < length before → StandsFor (tenant_at after t) (after_instant (instant_by before frame entries rows t) (rows t))

-- What is known of a host at any time.
use Rattle.std.specs.Prelude.{◌≡◌, ◌<◌, ◌≤◌, ℕ, List, Option, ℤ, length, All}
use Rattle.std.specs.List.{sum_by}
use Rattle.instant_engine.specs.cited.Instants.{IsBetween}
use Rattle.instant_engine.specs.cited.Tables.{IsTaskTable}
use Rattle.instant_engine.specs.Tenants.{ArePlaced, tenant_at}
use Rattle.rig_model.specs.Tenancies.{tenancy_at}
use Rattle.rig_model.specs.config.Roster.{Rig}
use Rattle.rig_model.specs.declared.config.TenantConfig.{TenantConfig}
use Rattle.instant_engine.specs.job_table.Finished.{TableEntry}
use Rattle.instant_engine.specs.state.Standing.{Standing}

-- what is known of each tenant of a host whose next instant has this number
abbrev pub IsAt : ℕ → Standing → Type 0
IsAt n s = (s.row.next_tick ≡ n) × IsBetween s

-- each tenant has the tenancy of its place in the roster
abbrev pub HaveTenancies : Rig → List Standing → Type 0
HaveTenancies config tenants = (t : ℕ) → t < length tenants → (tenant_at tenants t).tenancy ≡ tenancy_at config t

-- what is known of all tenants: they are those of the roster, each has the number of the next instant and the tenancy of its place, and the
-- table is that of their active tasks
pub record IsWhole (config : Rig) (clock : ℕ) (tenants : List Standing) (entries : List TableEntry) : Type 0 where
  pub as_many : length tenants ≡ length config.tenants
  pub known : All (IsAt clock) tenants
  pub placed : ArePlaced tenants
  pub tenancies : HaveTenancies config tenants
  pub table : IsTaskTable tenants entries

-- how many binds all tenants may have
abbrev pub most_binds : Rig → ℕ
most_binds config = sum_by (λ (tenant : TenantConfig). tenant.budgets.binds) config.tenants

-- what is known of a host: what is known of all its tenants, and that there is a place for each bind that they may have
pub record IsHost (config : Rig) (clock : ℕ) (tenants : List Standing) (entries : List TableEntry) (granted : List (Option ℤ)) : Type 0 where
  pub whole : IsWhole config clock tenants entries
  pub places : most_binds config ≤ length granted

-- The beginning of a history, and what stays fixed throughout it.
use Rattle.std.specs.Prelude.{◌≡◌, ◌<◌, ℕ, true, [], map, length}
use Rattle.std.specs.List.{AllByRecursion}
use Rattle.tenant_lines.specs.declared.config.TenantConfig.{TenantConfig}
use Rattle.rig_model.specs.declared.jobs.JobId.{JobId}
use Rattle.rig_model.specs.Jobs.{is_active}
use Rattle.rig_model.specs.Row.{ActiveTask, empty_row}
use Rattle.rig_model.specs.HostState.{HostState, row_at, is_counted}
use Rattle.tenant_lines.specs.config.Roster.{Rig}

-- What a host must meet so that a history can begin with it. Each tenant of the roster has a row, which has counted the instants up to the
-- next one. Every active task was released before that instant. Every counted job is active.
pub record IsBase (config : Rig) (base : HostState) : Type 0 where
  pub as_many : length base.rows ≡ length config.tenants
  pub counts : (t : ℕ) → t < length config.tenants → (row_at base t).next_tick ≡ base.clock
  pub early : (t : ℕ) → t < length config.tenants → AllByRecursion (λ (a : ActiveTask). a.release < base.clock) (row_at base t).active
  pub active : (j : JobId) → is_counted base j ≡ true → is_active (row_at base j.tenant) j ≡ true

-- the base of a new host, whose first instant has this number: no tenant has a program
abbrev pub new_base : Rig → ℕ → HostState
new_base config first_tick = record { rows = map (λ (t : TenantConfig). empty_row first_tick) config.tenants; counted = []; clock = first_tick }

-- what stays fixed throughout a history: the configuration, and the base that it begins with
pub record Setting : Type 0 where
  pub config : Rig
  pub base : HostState

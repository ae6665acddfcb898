-- What the host's code represents.
use Rattle.std.specs.Prelude.{◌≡◌, ◌<◌, ℕ, ℤ, List, [], map, length, slice_get, Option, IfSome}
use Rattle.std.specs.List.{flat_map, enumerate_from}
use Rattle.std.specs.Option.{option_and_then}
use Rattle.rig_model.specs.declared.config.TenantConfig.{TenantConfig}
use Rattle.rig_model.specs.declared.jobs.JobId.{JobId}
use Rattle.rig_model.specs.Completions.{with_completions}
use Rattle.rig_model.specs.Host.{after_event, host_after}
use Rattle.rig_model.specs.declared.events.Event.{Event}
use Rattle.rig_model.specs.HostState.{HostState, row_at, is_counted}
use Rattle.rig_model.specs.LineValues.{value_of_line}
use Rattle.rig_model.specs.Base.{Setting}
use Rattle.instant_engine.specs.Tenants.{ArePlaced, tenant_at}
use Rattle.instant_engine.specs.job_table.Finished.{TableEntry, has_result}
use Rattle.instant_engine.specs.job_table.Jobs.{JobValue}
use Rattle.rig_model.specs.Jobs.{job_of}
use Rattle.instant_engine.specs.state.Standing.{Standing, empty_standing, at_rest, StandsFor, outstanding_tasks, awaited_job}
use Rattle.rig_model.specs.Tenancies.{owner_at}
use Rattle.rig_model.specs.config.Roster.{Rig, budgets_at}
use Rattle.rig_model.specs.grants.Grants.{no_rows}

-- the host as its code has it
pub record HostStanding : Type 0 where
  pub config : Rig
  -- by their places in the roster, with nothing ready
  pub tenants : List Standing
  -- the table of their active tasks, with the results that came
  pub entries : List TableEntry
  -- the number of the next instant
  pub clock : ℕ

-- the tenant at place t of a new host, without a program and without rows
abbrev pub new_tenant : Rig → ℕ → ℕ → Standing
new_tenant config first_tick t = empty_standing (budgets_at config t) (no_rows (owner_at config t)) first_tick

-- a new host, whose first instant has this number
abbrev pub new_host : Rig → ℕ → HostStanding
new_host config first_tick = record {
  config = config;
  tenants = map (λ (place : ℕ × TenantConfig). at_rest (new_tenant config first_tick place.0)) (enumerate_from 0 config.tenants);
  entries = [];
  clock = first_tick;
}

-- The host represents a state: a row for each tenant, and the results of the jobs that were completed and are still active.
pub record Stands (setting : Setting) (host : HostStanding) (state : HostState) : Type 0 where
  pub same_config : host.config ≡ setting.config
  pub same_clock : host.clock ≡ state.clock
  pub as_many : length host.tenants ≡ length setting.config.tenants
  pub all_rows : length state.rows ≡ length setting.config.tenants
  pub placed : ArePlaced host.tenants
  pub each : (t : ℕ) → t < length setting.config.tenants → StandsFor (tenant_at host.tenants t) (row_at state t)
  pub counts : (t : ℕ) → t < length setting.config.tenants → (row_at state t).next_tick ≡ state.clock
  pub results : (j : JobId) → has_result host.entries j ≡ is_counted state j

-- `Holds` is true in each setting, of each state that the host represents there
abbrev pub ForEachState : HostStanding → (Setting → HostState → Type 0) → Type 0
ForEachState host Holds = (setting : Setting) (state : HostState) → Stands setting host state → Holds setting state

-- a host takes this event: if it represented a state before, it represents the state after the event
abbrev pub TakesEvent : Event → HostStanding → HostStanding → Type 0
TakesEvent e before after = ForEachState before (λ setting state. Stands setting after (after_event setting state e))

-- a host takes the completions of these jobs: if it was in the state after some events, it is in the state after those and the completions
abbrev pub TakesCompletions : List JobId → HostStanding → HostStanding → Type 0
TakesCompletions jobs before after = (setting : Setting) (past : List Event) → Stands setting before (host_after setting past)
    → Stands setting after (host_after setting (with_completions jobs past))

-- the value of line k, from the rows that the host has
abbrev pub line_of : HostStanding → ℕ → ℤ
line_of host k = value_of_line host.config (λ t. (tenant_at host.tenants t).row) k

-- the job of this name, if its completion is awaited: its task is active with its release, and it has no result yet
abbrev pub awaited_in : HostStanding → JobId → Option JobValue
awaited_in host j = option_and_then (λ s. awaited_job s host.entries j) (slice_get host.tenants j.tenant)

-- a completion of the host's own job: if a job of its name is awaited, it is the completion of that job, with the same body, inputs and states
abbrev pub IsOwn : HostStanding → JobValue → Type 0
IsOwn host done = IfSome (awaited_in host done.id) (λ job. job ≡ done)

-- the names of the jobs without a result in this table, tenant by tenant, from this place on
abbrev pub outstanding_from : List TableEntry → ℕ → List Standing → List JobId
outstanding_from entries from tenants = flat_map (λ (place : ℕ × Standing). map (job_of place.0) (outstanding_tasks place.1 entries)) (enumerate_from from tenants)

-- the names of all outstanding jobs of the host
abbrev pub outstanding_jobs : HostStanding → List JobId
outstanding_jobs host = outstanding_from host.entries 0 host.tenants

-- how many jobs are outstanding
abbrev pub outstanding_count : HostStanding → ℕ
outstanding_count host = length (outstanding_jobs host)

-- the names of the outstanding jobs of the tenant at place t
abbrev pub outstanding_of : HostStanding → ℕ → List JobId
outstanding_of host t = map (job_of t) (outstanding_tasks (tenant_at host.tenants t) host.entries)

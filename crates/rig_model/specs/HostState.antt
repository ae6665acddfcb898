-- The state of a host at one place of a history.
use Rattle.std.specs.Prelude.{ℕ, Bool, not, ◌&&◌, List, slice_index_or}
use Rattle.std.specs.List.{list_any}
use Rattle.rig_model.specs.declared.jobs.JobId.{JobId}
use Rattle.rig_model.specs.Jobs.{same_job, is_active}
use Rattle.rig_model.specs.Row.{Row, empty_row}

-- a row for each tenant, by its place; the jobs that were completed and are still active; and the number of the next instant
pub record HostState : Type 0 where
  pub rows : List Row
  pub counted : List JobId
  pub clock : ℕ

-- the row of the tenant at place t; an empty one if the roster has no such place
abbrev pub row_at : HostState → ℕ → Row
row_at host t = slice_index_or host.rows t (empty_row host.clock)

abbrev pub is_counted : HostState → JobId → Bool
is_counted host j = list_any (λ i. same_job i j) host.counted

-- the host awaits a completion if the job is active and not counted yet
abbrev pub is_awaited : HostState → JobId → Bool
is_awaited host j = is_active (row_at host j.tenant) j && not (is_counted host j)

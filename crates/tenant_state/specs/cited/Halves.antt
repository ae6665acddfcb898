-- A tenant before and after the two halves of an instant.
use Rattle.std.specs.Prelude.{◌≡◌, ◌⊎◌, ◌+◌, ℤ, List, Option, [], ℕ}
use Rattle.tenant_jobs.specs.Finished.{TableEntry, has_result}
use Rattle.rig_model.specs.Granted.{granted_along}
use Rattle.rig_model.specs.Readings.{readings_within}
use Rattle.rig_model.specs.FirstHalf.{unfinished_tasks, first_half_of}
use Rattle.rig_model.specs.Jobs.{job_of}
use Rattle.rig_model.specs.Row.{Row}
use Rattle.rig_model.specs.SecondHalf.{second_half_of}
use Rattle.tenant_state.specs.Standing.{Standing, StandsFor}
use Rattle.tenant_state.specs.cited.Standing.{AreEnded}

-- the first half of the row of the tenant at this place, if exactly the tasks with a result in this table are completed
abbrev pub first_half_by : List TableEntry → ℕ → Row → Row
first_half_by entries place row = first_half_of (unfinished_tasks (λ a. has_result entries (job_of place a)) row) row

-- a tenant before and after its first half: whatever row it represented, it now represents that row after the half
pub record IsFirstHalf (entries : List TableEntry) (before after : Standing) : Type 0 where
  pub step : (row : Row) → StandsFor before row → StandsFor after (first_half_by entries before.tenancy.owner.place row)
  pub next_tick : after.row.next_tick ≡ before.row.next_tick
  pub tenancy : after.tenancy ≡ before.tenancy
  pub program : after.row.program ≡ before.row.program
  pub offers : after.row.offers ≡ before.row.offers
  pub binds : after.row.binds ≡ before.row.binds
  pub ended : AreEnded before after

-- a tenant before and after its second half. It reads the lines that it may read, and takes what is granted through its binds.
-- Its program stays, or it had no active task.
pub record IsSecondHalf (frame : List ℤ) (granted : List (Option ℤ)) (before after : Standing) : Type 0 where
  pub step : (row : Row) → StandsFor before row → StandsFor after (second_half_of (readings_within before.tenancy.budgets.reads frame) (granted_along before.row.binds granted) row)
  pub next_tick : after.row.next_tick ≡ before.row.next_tick + 1
  pub tenancy : after.tenancy ≡ before.tenancy
  pub program : (after.row.program ≡ before.row.program) ⊎ (before.row.active ≡ [])
  pub offers : after.row.offers ≡ before.row.offers
  pub binds : after.row.binds ≡ before.row.binds
  pub ended : after.ready.ended ≡ []

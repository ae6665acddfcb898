-- A tenant after a command or an instant, what it must have ready, and what the table of active tasks must have.
use Rattle.std.specs.Prelude.{[], ◌≡◌, ◌&&◌, not, Bool, ◌≤◌, ◌<◌, true, ◌+◌, List, Some, IfSome, length, take, drop}
use Rattle.rig_model.specs.text.Program.{GiottoProgram}
use Rattle.rig_model.specs.declared.lines.replies.Reply.{Reply}
use Rattle.rig_model.specs.Commands.{CommandOutcome, refused}
use Rattle.rig_model.specs.Row.{ActiveTask, Row}
use Rattle.rig_model.specs.declared.jobs.JobId.{JobId}
use Rattle.tenant_jobs.specs.Finished.{TableEntry, result_in}
use Rattle.tenant_jobs.specs.cited.Finished.{is_entered, result_of}
use Rattle.rig_model.specs.Jobs.{has_job, job_of}
use Rattle.tenant_state.specs.Jobs.{job_in}
use Rattle.rig_model.specs.SecondHalf.{replaced_if_due}
use Rattle.tenant_state.specs.Standing.{Standing, StandsFor, most_released}
use Rattle.rig_model.specs.declared.trace.records.Record.{Record}
use Rattle.rig_model.specs.declared.lines.replies.Refusal.{Refusal}
use Rattle.std.specs.List.{AllByRecursion}

-- a command's outcome: this reply was given, and the tenant represents the row after it
pub record IsOutcome (outcome : CommandOutcome) (reply : Reply) (standing : Standing) : Type 0 where
  pub same_reply : reply ≡ outcome.reply
  pub stands : StandsFor standing outcome.row

-- this holds of each row that the tenant represents
abbrev pub HoldsOfRow : Standing → (Row → Type 0) → Type 0
HoldsOfRow standing P = (row : Row) → StandsFor standing row → P row

-- whatever row the tenant represented, it now represents the row after this step
abbrev pub IsBehind : Standing → (Row → Row) → Standing → Type 0
IsBehind before step after = HoldsOfRow before (λ row. StandsFor after (step row))

-- whatever row the tenant represented, this is the reply of the step, and the tenant now represents the row after the step
abbrev pub IsAnswered : Standing → (Row → CommandOutcome) → Reply → Standing → Type 0
IsAnswered before step reply after = HoldsOfRow before (λ row. IsOutcome (step row) reply after)

-- whatever row the tenant represents, the step is refused with this reason
abbrev pub IsRefused : Standing → (Row → CommandOutcome) → Refusal → Type 0
IsRefused standing step r = HoldsOfRow standing (λ row. step row ≡ refused row r)

-- whether the tenant has an active task with the job of this name
abbrev pub has_active : Standing → JobId → Bool
has_active s j = has_job s.tenancy.owner.place s.row.active j

-- the active tasks and the program are unchanged
abbrev pub AreTasksKept : Standing → Standing → Type 0
AreTasksKept before after = (after.row.active ≡ before.row.active) × (after.row.program ≡ before.row.program)

-- exactly the tasks that were active before, and aren't active after, are reported as ended
abbrev pub AreEnded : Standing → Standing → Type 0
AreEnded before after = (j : JobId) → has_job after.tenancy.owner.place after.ready.ended j ≡ (has_active before j && not (has_active after j))

-- without tasks that ended
abbrev pub without_ended : Standing → Standing
without_ended s = record s { ready = record s.ready { ended = [] } }

-- there is space for the most tasks that the next instant can release
abbrev pub HasRoom : Standing → Type 0
HasRoom s = most_released s.row ≤ s.ready.room

-- no program is installed at the next instant, whatever was recorded
abbrev pub IsSettled : Row → Type 0
IsSettled row = (rs : List Record) → replaced_if_due (record row { records = rs }) ≡ record row { records = rs }

-- there is a share of each body that the next instant can need
abbrev pub HasShares : Standing → Type 0
HasShares s = 0 < most_released s.row → s.ready.shared ≡ true

-- the tasks that an instant made active come after those of before. They are no more than it can release, and have its number.
pub record AreReleased (before after : Row) : Type 0 where
  pub older : take (length before.active) after.active ≡ before.active
  pub newer : AllByRecursion (λ (a : ActiveTask). a.release ≡ before.next_tick) (drop (length before.active) after.active)
  pub few : length after.active ≤ length before.active + most_released before

-- each active task has its entry in the table
abbrev pub HasItsEntries : Standing → List TableEntry → Type 0
HasItsEntries s entries = AllByRecursion (λ a. is_entered entries (job_of s.tenancy.owner.place a) ≡ true) s.row.active

-- the results that came for its active tasks are those of their jobs
abbrev pub HasItsResults : Standing → List TableEntry → Type 0
HasItsResults s entries = (p : GiottoProgram) → s.row.program ≡ Some p
    → AllByRecursion (λ a. IfSome (result_in entries (job_of s.tenancy.owner.place a)) (λ r. r ≡ result_of (job_in p s.tenancy.owner.place a))) s.row.active

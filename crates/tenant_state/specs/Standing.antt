-- What a tenant's code represents: its row, with the last of its records.
use Rattle.std.specs.Prelude.{◌≡◌, ◌<◌, ◌&&◌, nat_eq, ℕ, Bool, true, false, not, if◌then◌else◌, List, [], ◌∷◌, map, filter, length, max, take, Option, None}
use Rattle.std.specs.List.{AllByRecursion, find, list_all}
use Rattle.std.specs.Option.{option_and_then, option_map, option_map_or}
use Rattle.giotto_tasks.specs.declared.names.Name.{Name}
use Rattle.giotto_tasks.specs.Names.{same_name}
use Rattle.rig_model.specs.text.Program.{GiottoProgram, ModeDeclaration, ModeSwitch, TaskInvocation}
use Rattle.rig_model.specs.rules.Costs.{greatest}
use Rattle.rig_model.specs.rules.Declarations.{mode_named}
use Rattle.rig_model.specs.config.Intervals.{whole}
use Rattle.rig_model.specs.config.Roster.{no_budgets}
use Rattle.rig_model.specs.declared.config.Budgets.{Budgets}
use Rattle.rig_model.specs.grants.Grants.{GrantRows, no_rows}
use Rattle.rig_model.specs.declared.jobs.JobId.{JobId}
use Rattle.rig_model.specs.Due.{is_due_at}
use Rattle.tenant_jobs.specs.Finished.{TableEntry, has_result}
use Rattle.tenant_jobs.specs.Jobs.{JobValue}
use Rattle.rig_model.specs.Jobs.{same_job, job_of}
use Rattle.tenant_state.specs.Jobs.{job_in}
use Rattle.rig_model.specs.SecondHalf.{replaced_if_due}
use Rattle.rig_model.specs.Tenancies.{Tenancy}
use Rattle.rig_model.specs.Row.{ActiveTask, Row, empty_row, is_running}

-- what a tenant's code has ready for the next instant
pub record Readiness : Type 0 where
  -- the tasks that ended, but still have their entries in the table of active tasks
  pub ended : List ActiveTask
  -- how many more tasks fit
  pub room : ℕ
  -- whether a share of each task's body is available, for the program and for a waiting one
  pub shared : Bool

-- what a tenant's code keeps: its owner and budgets, a row with the last records, and what it has ready
pub record Standing : Type 0 where
  pub tenancy : Tenancy
  pub row : Row
  pub ready : Readiness

-- the same, with nothing ready for the next instant
abbrev pub at_rest : Standing → Standing
at_rest s = record s { ready = record s.ready { room = 0; shared = false } }

-- a tenant with these budgets and these rows of grants, without a program. Its first instant has this number.
abbrev pub empty_standing : Budgets → GrantRows → ℕ → Standing
empty_standing budgets rows first_tick = record {
  tenancy = record { owner = rows.owner; budgets = budgets };
  row = record (empty_row first_tick) { offers = rows.offers; binds = rows.binds };
  ready = record { ended = []; room = 0; shared = true };
}

-- no tenant: it may use nothing
abbrev pub no_tenant : Standing
no_tenant = empty_standing no_budgets (no_rows (record { place = 0; roster = []; most_offers = 0; most_binds = 0; bounds = whole })) 0

-- the row with only the last n of its records
abbrev pub with_last : ℕ → Row → Row
with_last n row = record row { records = take n row.records }

-- it represents this row: it has all of it, but of the records only as many of the last as its trace keeps
abbrev pub StandsFor : Standing → Row → Type 0
StandsFor standing row = standing.row ≡ with_last standing.tenancy.budgets.trace row

-- how many tasks the mode of this name invokes
abbrev pub invoked_in : GiottoProgram → Name → ℕ
invoked_in p x = option_map_or (λ (m : ModeDeclaration). length m.invocations) (mode_named p x) 0

-- the most tasks that an instant in this mode can release at this mode time: those that are due, or all those of a mode that a
-- due switch enters
abbrev pub most_at : GiottoProgram → ModeDeclaration → ℕ → ℕ
most_at p m time =
    max (length (filter (λ (i : TaskInvocation). is_due_at time m i.frequency) m.invocations))
    (greatest (map (λ (s : ModeSwitch). invoked_in p s.target) (filter (λ (s : ModeSwitch). is_due_at time m s.frequency) m.switches)))

-- the most tasks that can be released in the row's mode at its mode time
abbrev pub most_in_mode : Row → ℕ
most_in_mode row = option_map_or (λ p. option_map_or (λ m. most_at p m row.mode_time) (mode_named p row.mode) 0) row.program 0

-- the most tasks that the row's next instant can release. If a waiting program is installed then, these are tasks of that
-- program.
abbrev pub most_released : Row → ℕ
most_released row = if is_running row then most_in_mode (replaced_if_due row) else 0

-- the outstanding tasks: active, and without a result in this table
abbrev pub outstanding_tasks : Standing → List TableEntry → List ActiveTask
outstanding_tasks s entries = filter (λ a. not (has_result entries (job_of s.tenancy.owner.place a))) s.row.active

-- the job of this name, if it is one of the tenant's and its task is active with the job's release
abbrev pub released_job : Standing → JobId → Option JobValue
released_job s j = option_and_then (λ p. option_map (job_in p s.tenancy.owner.place) (find (λ a. same_job (job_of s.tenancy.owner.place a) j) s.row.active)) s.row.program

-- the job of this name, if its completion is awaited: its task is active with its release, and its result isn't in this table
abbrev pub awaited_job : Standing → List TableEntry → JobId → Option JobValue
awaited_job s entries j = if has_result entries j then None else released_job s j

-- whether these two aren't the same release of the same task
abbrev pub is_another : ActiveTask → ActiveTask → Bool
is_another a b = not (same_name a.task b.task && nat_eq a.release b.release)

-- no two of the active tasks are the same release of the same task
abbrev pub all_different_releases : List ActiveTask → Bool
all_different_releases [] = true
all_different_releases (a ∷ rest) = list_all (is_another a) rest && all_different_releases rest

-- what is known of every tenant's row. It has no more records than its trace keeps. It has active tasks only if it has a program,
-- and only while that runs. Each was released before the next instant. No two are the same release of the same task.
pub record IsKnown (tenancy : Tenancy) (row : Row) : Type 0 where
  pub few_records : take tenancy.budgets.trace row.records ≡ row.records
  pub tasks : row.program ≡ None → row.active ≡ []
  pub rests : is_running row ≡ false → row.active ≡ []
  pub early : AllByRecursion (λ (a : ActiveTask). a.release < row.next_tick) row.active
  pub different : all_different_releases row.active ≡ true

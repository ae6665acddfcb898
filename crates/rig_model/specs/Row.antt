-- The state of one tenant.
use Rattle.std.specs.Prelude.{ℕ, ℤ, Bool, true, false, List, [], ◌∷◌, Option, Some, None, if◌then◌else◌}
use Rattle.giotto_tasks.specs.declared.names.Name.{Name}
use Rattle.giotto_tasks.specs.Names.{Valuation, value_at, is_among}
use Rattle.giotto_rules.specs.text.Program.{GiottoProgram, ModeDeclaration}
use Rattle.tenant_lines.specs.declared.grants.rows.Offer.{Offer}
use Rattle.tenant_lines.specs.declared.grants.rows.Bind.{Bind}
use Rattle.tenant_lines.specs.declared.trace.records.Record.{Record}
use Rattle.tenant_lines.specs.declared.trace.records.Happening.{Happening}
use Rattle.giotto_rules.specs.Declarations.{mode_named, actuator_names}
use Rattle.std.specs.Option.{option_map_or}

-- why a tenant was stopped
pub data StopReason : Type 0 where
  asked : StopReason
  -- this task was due, and its computation was not completed
  overrun : Name → StopReason

-- what a tenant is doing
pub data TenantState : Type 0 where
  empty : TenantState
  loaded : TenantState
  running : TenantState
  stopped : StopReason → TenantState

-- a task between its release and its deadline, with its inputs and states at its release
pub record ActiveTask : Type 0 where
  pub task : Name
  -- the number of the instant that released it
  pub release : ℕ
  pub inputs : List ℤ
  pub states : List ℤ

-- one tenant: its program, and the state that it has reached
pub record Row : Type 0 where
  pub state : TenantState
  pub program : Option GiottoProgram
  pub mode : Name
  -- ticks since the mode's period began, as the next instant will find them
  pub mode_time : ℕ
  pub active : List ActiveTask
  -- every port of the program with its value, a task's own ports as TASK.NAME
  pub ports : Valuation
  pub offers : List Offer
  pub binds : List Bind
  -- a program that replaces the running one when its mode's period ends
  pub waiting : Option GiottoProgram
  -- all records since the host began, the newest first
  pub records : List Record
  -- the number of the next instant
  pub next_tick : ℕ

-- a tenant without a program, whose first instant has this number
abbrev pub empty_row : ℕ → Row
empty_row first_tick = record {
  state = empty;
  program = None;
  mode = [];
  mode_time = 0;
  active = [];
  ports = [];
  offers = [];
  binds = [];
  waiting = None;
  records = [];
  next_tick = first_tick;
}

-- whether the state is that of a running program
abbrev pub is_running_state : TenantState → Bool
is_running_state running = true
is_running_state empty = false
is_running_state loaded = false
is_running_state (stopped reason) = false

-- whether the tenant runs its program
abbrev pub is_running : Row → Bool
is_running row = is_running_state row.state

-- the row after a step for the value; the row unchanged if there is no value
abbrev pub where_some : {A : Type 0} → (A → Row → Row) → Option A → Row → Row
where_some step None row = row
where_some step (Some x) row = step x row

-- a step in the row's program; the row unchanged if it has no program
abbrev pub in_program : (GiottoProgram → Row → Row) → Row → Row
in_program step row = where_some step row.program row

-- a step in the row's program and mode
abbrev pub in_mode : (GiottoProgram → ModeDeclaration → Row → Row) → Row → Row
in_mode step row = in_program (λ p. where_some (step p) (mode_named p row.mode)) row

-- one record more, with the next instant's number
abbrev pub recorded : Happening → Row → Row
recorded h row = record row { records = record { tick = row.next_tick; happening = h } ∷ row.records }

-- the value of an actuator of the row's program, if it has one of this name
abbrev pub actuator_value : Row → Name → Option ℤ
actuator_value row x = option_map_or (λ p. if is_among (actuator_names p) x then value_at row.ports x else None) row.program None

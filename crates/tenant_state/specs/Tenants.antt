-- How a tenant's fields represent its row.
use Rattle.std.specs.Prelude.{ℕ, ℤ, Bool, true, ◌&&◌, List, [], map, Option, Some, None, is_some}
use Rattle.std.specs.List.{list_all}
use Rattle.std.specs.Option.{option_map, option_map_or}
use Rattle.giotto_tasks.specs.declared.names.Name.{Name}
use Rattle.giotto_tasks.specs.Names.{Valuation}
use Rattle.giotto_tasks.specs.Syntax.{TaskBody}
use Rattle.rig_model.specs.text.Program.{GiottoProgram}
use Rattle.tenant_slots.specs.well_formed.Slots.{valuation_of}
use Rattle.rig_model.specs.declared.config.Budgets.{Budgets}
use Rattle.rig_model.specs.grants.Grants.{GrantRows}
use Rattle.tenant_slots.specs.Places.{name_of_task, name_of_mode}
use Rattle.tenant_state.specs.declared.tenants.Active.{Active}
use Rattle.tenant_state.specs.declared.tenants.Reason.{Reason}
use Rattle.tenant_state.specs.declared.tenants.Reason.TheVariants.{Asked, Overrun}
use Rattle.tenant_state.specs.declared.tenants.State as code
use Rattle.tenant_state.specs.declared.tenants.waiting.Waiting.{Waiting}
use Rattle.tenant_state.specs.declared.tenants.State.TheVariants as states
use Rattle.rig_model.specs.Row.{StopReason, asked, overrun, TenantState, empty, loaded, running, stopped, ActiveTask}
use Rattle.tenant_state.specs.Standing.{Standing}
use Rattle.rig_model.specs.trace.Trace.{LastRecords}

-- why the code's tenant was stopped
abbrev pub reason_of : Reason → StopReason
reason_of Asked = asked
reason_of (Overrun x) = overrun x

-- the state that the code's state represents
abbrev pub state_of : code.State → TenantState
state_of states.Empty = empty
state_of states.Loaded = loaded
state_of states.Running = running
state_of (states.Stopped r) = stopped (reason_of r)

-- the active task that the code's active task represents: its name is found in the program, by its place
abbrev pub active_of : GiottoProgram → Active → ActiveTask
active_of p a = record { task = name_of_task p a.task; release = a.release; inputs = a.inputs; states = a.states }

-- the active tasks, the mode and the ports that places and slots represent; none without a program
abbrev pub tasks_in : Option GiottoProgram → List Active → List ActiveTask
tasks_in o active = option_map_or (λ p. map (active_of p) active) o []

abbrev pub mode_in : Option GiottoProgram → ℕ → Name
mode_in o mode = option_map_or (λ p. name_of_mode p mode) o []

abbrev pub ports_in : Option GiottoProgram → List ℤ → Valuation
ports_in o values = option_map_or (λ p. valuation_of p values) o []

-- whether a share of each task's body of a waiting program is available
abbrev pub is_shared : Option Waiting → Bool
is_shared None = true
is_shared (Some w) = list_all is_some w.beginning.shares.items

-- what a tenant's fields represent. `room` is the space left for active tasks, and `shares` has the shares of bodies that are
-- available.
abbrev pub standing_of : Budgets → GrantRows → code.State → Option GiottoProgram → ℕ → ℕ → List Active → List Active → ℕ → List ℤ → List (Option TaskBody) → Option Waiting → LastRecords → ℕ → Standing
standing_of budgets grants state program mode time active ended room values shares waiting trace next_tick = record {
  tenancy = record { owner = grants.owner; budgets = budgets };
  row = record {
    state = state_of state;
    program = program;
    mode = mode_in program mode;
    mode_time = time;
    active = tasks_in program active;
    ports = ports_in program values;
    offers = grants.offers;
    binds = grants.binds;
    waiting = option_map (λ (w : Waiting). w.program) waiting;
    records = trace.records;
    next_tick = next_tick;
  };
  ready = record { ended = tasks_in program ended; room = room; shared = list_all is_some shares && is_shared waiting };
}

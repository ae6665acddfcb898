-- What a tenant's commands do, by the tenant's fields.
use Rattle.std.proofs.Common.{◌≡◌, ℕ, ℤ, List, [], ◌∷◌, map, Option, Some, None, refl, ap}
use Rattle.giotto_tasks.specs.Syntax.{TaskBody}
use Rattle.rig_model.specs.text.Program.{GiottoProgram, TaskDeclaration}
use Rattle.tenant_state.specs.declared.tenants.Active.{Active}
use Rattle.tenant_state.specs.declared.tenants.waiting.Waiting.{Waiting}
use Rattle.tenant_state.specs.declared.tenants.State as code
use Rattle.rig_model.specs.Commands.{at_beginning}
use Rattle.rig_model.specs.declared.text.programs.Task.{Task}
use Rattle.rig_model.specs.text.ProgramTrees.{task_of}
use Rattle.tenant_slots.specs.well_formed.cited.Timetables.{AreEach}
use Rattle.tenant_slots.specs.well_formed.Slots.{valuation_of}
use Rattle.rig_model.specs.grants.Grants.{GrantRows}
use Rattle.tenant_slots.specs.Places.{name_of_mode}
use Rattle.rig_model.specs.Ports.{initial_ports}
use Rattle.rig_model.specs.Row.{Row}
use Rattle.tenant_state.specs.Standing.{with_last}
use Rattle.tenant_state.specs.Tenants.{state_of}
use Rattle.tenant_state.proofs.Stops.{row_of}
use Rattle.rig_model.specs.trace.Trace.{LastRecords}
use Rattle.tenant_state.specs.inner.Tenants.{IsShareOf}

-- the row after a program was put in place, at its beginning
pub stands_at_beginning : (grants : GrantRows) (state : code.State) (program : Option GiottoProgram) (mode time : ℕ) (active : List Active) (values : List ℤ) (waiting : Option Waiting) (trace : LastRecords) (count most : ℕ) (row : Row) (next : code.State) (p : GiottoProgram) (start : ℕ) (new : List ℤ)
    → row_of grants state program mode time active values waiting trace count ≡ with_last most row → name_of_mode p start ≡ p.start → valuation_of p new ≡ initial_ports p
    → row_of grants next (Some p) start 0 [] new None trace count ≡ with_last most (at_beginning (state_of next) p row)
stands_at_beginning grants state program mode time active values waiting trace count most row next p start new stands starts initial = λ k. record {
  state = state_of next;
  program = Some p;
  mode = starts k;
  mode_time = 0;
  active = [];
  ports = initial k;
  offers = (stands k).offers;
  binds = (stands k).binds;
  waiting = None;
  records = (stands k).records;
  next_tick = (stands k).next_tick;
}

-- no share is available
pub none_shared : (tasks : List TaskDeclaration) → AreEach IsShareOf tasks (map (λ t. None) tasks)
none_shared [] = tt
none_shared (t ∷ rest) = (tt, none_shared rest)

-- there are as many empty places as tasks
pub none_of_each : (tasks : List Task) → map {B = Option TaskBody} (λ t. None) tasks ≡ map {B = Option TaskBody} (λ t. None) (map task_of tasks)
none_of_each [] = refl
none_of_each (t ∷ rest) = ap (λ (shares : List (Option TaskBody)). None ∷ shares) (none_of_each rest)

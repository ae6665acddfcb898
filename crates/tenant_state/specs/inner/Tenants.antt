-- What is true of a tenant's fields at any time, and of the steps of an instant on them.
use Rattle.std.specs.Prelude.{true, nat_eq, Bool, ◌&&◌, List, [], ◌∷◌, ◌≡◌, length, IsSomeAnd, slice_get, ◌<◌, ℕ, ◌+◌, ℤ, false, ◌++◌, filter, map, Some, Option, None, IfSome, ◌^◌, take}
use Rattle.tenant_jobs.specs.Finished.{TableEntry, result_in, has_result}
use Rattle.tenant_jobs.specs.Jobs.{JobValue}
use Rattle.tenant_jobs.specs.cited.Finished.{result_of}
use Rattle.rig_model.specs.Jobs.{job_of}
use Rattle.tenant_state.specs.Jobs.{job_in}
use Rattle.tenant_state.specs.Standing.{all_different_releases}
use Rattle.tenant_state.specs.declared.tenants.Active.{Active}
use Rattle.giotto_tasks.specs.Names.{same_name, Valuation}
use Rattle.rig_model.specs.text.Program.{GiottoProgram, TaskDeclaration, body_of, ModeDeclaration, ModeSwitch}
use Rattle.tenant_slots.specs.Places.{name_of_mode, name_of_task}
use Rattle.tenant_slots.specs.cited.Places.{IsModeAt}
use Rattle.rig_model.specs.declared.jobs.JobId.{JobId}
use Rattle.tenant_jobs.specs.declared.jobs.JobResult.{JobResult}
use Rattle.tenant_state.specs.Tenants.{active_of, tasks_in}
use Rattle.rig_model.specs.Row.{ActiveTask, TenantState, is_running_state}
use Rattle.std.specs.List.{AllByRecursion}
use Rattle.tenant_slots.specs.well_formed.cited.Slots.{slots_of}
use Rattle.tenant_slots.specs.well_formed.Slots.{valuation_of}
use Rattle.rig_model.specs.SecondHalf.{all_invoked, all_released, entry_time}
use Rattle.rig_model.specs.rules.Declarations.{mode_named}
use Rattle.rig_model.specs.Switches.{switch_taken, with_destinations}
use Rattle.tenant_state.specs.declared.tenants.switches.Entry.{Entry}
use Rattle.giotto_tasks.specs.Syntax.{TaskBody}
use Rattle.tenant_slots.specs.well_formed.cited.Timetables.{AreEach}
use Rattle.tenant_slots.specs.cited.Due.{IsQuietUntil}
use Rattle.tenant_slots.specs.cited.Replacement.{IsCarryTable}
use Rattle.rig_model.specs.Ports.{initial_ports}
use Rattle.tenant_state.specs.declared.tenants.waiting.Beginning.{Beginning}
use Rattle.tenant_state.specs.declared.tenants.waiting.Waiting.{Waiting}
use Rattle.std.specs.Arc.{arc_value}
use Rattle.std.specs.Option.{option_map}
use Rattle.rig_model.specs.declared.trace.records.Happening.{Happening}
use Rattle.rig_model.specs.declared.trace.records.Happening.TheVariants as happening
use Rattle.rig_model.specs.trace.Trace.{LastRecords}
use Rattle.tenant_state.specs.inner.Invoked.{IsInvokedIn}

-- whether the active task is that of the job: it has the job's task and the job's release
abbrev pub is_of_job : GiottoProgram → JobId → Active → Bool
is_of_job p j a = nat_eq a.release j.tick && same_name (name_of_task p a.task) j.task

-- the name of its job, if it is a task of the tenant at this place
abbrev pub its_name : ℕ → GiottoProgram → Active → JobId
its_name place p a = job_of place (active_of p a)

-- its job
abbrev pub its_job : ℕ → GiottoProgram → Active → JobValue
its_job place p a = job_in p place (active_of p a)

-- the active tasks that the instant of number n released
abbrev pub released_in : ℕ → List Active → List Active
released_in n active = filter (λ (a : Active). nat_eq a.release n) active

-- whether the result of its job came
abbrev pub is_done : List TableEntry → ℕ → GiottoProgram → Active → Bool
is_done entries place p a = has_result entries (its_name place p a)

-- the result of its job
abbrev pub its_result : ℕ → GiottoProgram → Active → JobResult
its_result place p a = result_of (its_job place p a)

-- the result that came for its job, if any, is that of the job
abbrev pub IsResultRight : List TableEntry → ℕ → GiottoProgram → Active → Type 0
IsResultRight entries place p a = IfSome (result_in entries (its_name place p a)) (λ r. r ≡ its_result place p a)

-- an active task of this declaration
pub record IsActiveAs (a : Active) (t : TaskDeclaration) : Type 0 where
  pub inputs_fit : length a.inputs ≡ length t.inputs
  pub states_fit : length a.states ≡ length t.states

-- an active task of the program: its task is declared at its place, and fits its declaration
abbrev pub IsActiveOf : GiottoProgram → Active → Type 0
IsActiveOf p a = IsSomeAnd (slice_get p.tasks a.task) (IsActiveAs a)

-- and released before the next instant
pub record IsActiveIn (p : GiottoProgram) (next_tick : ℕ) (a : Active) : Type 0 where
  pub early : a.release < next_tick
  pub declared : IsActiveOf p a

-- the mode's invocations happened: the released tasks come after the older ones, and the values are those after all drivers
pub record AreInvoked (p : GiottoProgram) (m : ModeDeclaration) (time n : ℕ) (sensed : Valuation) (old new : List Active) (values : List ℤ) : Type 0 where
  pub tasks : map (active_of p) new ≡ map (active_of p) old ++ all_released p m time n m.invocations sensed
  pub ports : valuation_of p values ≡ all_invoked p m time m.invocations sensed
  pub each : AllByRecursion (IsActiveIn p (n + 1)) new
  pub long : length values ≡ slots_of p

-- a switch of the mode is taken: the mode that it enters, the mode time there, and the values after it
pub record IsEntered (p : GiottoProgram) (m : ModeDeclaration) (time : ℕ) (active : List ActiveTask) (ports : Valuation) (entry : Entry) (values : List ℤ) : Type 0 where
  pub switch : ModeSwitch
  pub target : ModeDeclaration
  pub taken : switch_taken m time ports ≡ Some switch
  pub named : mode_named p switch.target ≡ Some target
  pub there : IsModeAt p entry.mode target
  pub begins : entry.time ≡ entry_time m target time active
  pub given : valuation_of p values ≡ with_destinations switch ports

-- a switch of the mode is taken, or none is
abbrev pub IsSwitched : GiottoProgram → ModeDeclaration → ℕ → List ActiveTask → Valuation → Option Entry → List ℤ → Type 0
IsSwitched p m time active ports None values = (switch_taken m time ports ≡ None) × (valuation_of p values ≡ ports)
IsSwitched p m time active ports (Some entry) values = IsEntered p m time active ports entry values

-- what a trace records of a switch
abbrev pub entry_happened : GiottoProgram → Option Entry → List Happening
entry_happened p None = []
entry_happened p (Some entry) = happening.Mode (name_of_mode p entry.mode) ∷ []

-- a share, if there is one, is of the body of this task
abbrev pub IsShareOf : TaskDeclaration → Option TaskBody → Type 0
IsShareOf t share = IfSome share (λ b. b ≡ body_of t)

-- a tenant with this program. It has as many values as the program has ports. Its mode is one of the program's, and nothing is
-- due in the mode before `next`. Its active tasks, and those that ended, are tasks of the program, and the mode invokes the
-- active ones. The shares are of the program's bodies, in their order.
pub record FitsProgram (p : GiottoProgram) (mode time next : ℕ) (active ended : List Active) (values : List ℤ) (shares : List (Option TaskBody)) (next_tick : ℕ) : Type 0 where
  pub long : length values ≡ slots_of p
  pub mode_there : mode < length p.modes
  pub quiet : (m : ModeDeclaration) → IsModeAt p mode m → IsQuietUntil m time next
  pub each : AllByRecursion (IsActiveIn p next_tick) active
  pub invoked : (m : ModeDeclaration) → IsModeAt p mode m → AllByRecursion (IsInvokedIn p m) active
  pub each_ended : AllByRecursion (IsActiveOf p) ended
  pub share_each : AreEach IsShareOf p.tasks shares

-- the tenant fits its program, or it has no program and no active task
abbrev pub FitsIts : Option GiottoProgram → ℕ → ℕ → ℕ → List Active → List Active → List ℤ → List (Option TaskBody) → ℕ → Type 0
FitsIts None mode time next active ended values shares next_tick = active ≡ []
FitsIts (Some p) mode time next active ended values shares next_tick = FitsProgram p mode time next active ended values shares next_tick

-- what is known of a tenant at any time. Its mode time is small. It has active tasks only while its program runs, and their
-- releases differ. The rest fits its program.
pub record IsTenant (state : TenantState) (program : Option GiottoProgram) (mode time next : ℕ) (active ended : List Active) (values : List ℤ) (shares : List (Option TaskBody)) (next_tick : ℕ) : Type 0 where
  pub short_time : time < 2 ^ 32
  pub rests : is_running_state state ≡ false → active ≡ []
  pub different : all_different_releases (tasks_in program active) ≡ true
  pub fits : FitsIts program mode time next active ended values shares next_tick

-- what is known of a trace that keeps the last `most` records
pub record IsTraceOf (most : ℕ) (trace : LastRecords) : Type 0 where
  pub same_most : trace.most ≡ most
  pub few : take most trace.records ≡ trace.records

-- what a program begins with: each port initial, and a place for a share of each task's body
pub record IsBeginning (p : GiottoProgram) (b : Beginning) : Type 0 where
  pub long : length b.values.items ≡ slots_of p
  pub initial : valuation_of p b.values.items ≡ initial_ports p
  pub share_each : AreEach IsShareOf p.tasks (map (option_map arc_value) b.shares.items)

-- a program waits to replace the tenant's program. It has what it begins with, and the table of the values that it keeps.
pub record IsWaitingFor (o : Option GiottoProgram) (w : Waiting) : Type 0 where
  pub begins : IsBeginning w.program w.beginning
  pub keeps : IfSome o (λ p. IsCarryTable p w.program w.carried.items)

-- a waiting program, if there is one, waits to replace the tenant's program
abbrev pub FitsWaiting : Option GiottoProgram → Option Waiting → Type 0
FitsWaiting o waiting = IfSome waiting (IsWaitingFor o)

-- What the entries of a mode's timetables mean: its updates, switches and invocations, over the numbers of ports.
use Rattle.std.specs.Prelude.{◌≡◌, ℕ, ◌/◌, ℤ, List, [], ◌∷◌, map, length, Option, Some, None, IsSomeAnd}
use Rattle.std.specs.List.{position_from, range_with_len}
use Rattle.giotto_tasks.specs.declared.names.Name.{Name}
use Rattle.giotto_tasks.specs.cited.DriverCode.{driver_value}
use Rattle.giotto_tasks.specs.Meaning.{value_of}
use Rattle.giotto_tasks.specs.Names.{same_name}
use Rattle.giotto_tasks.specs.Syntax.{Expression}
use Rattle.giotto_rules.specs.text.Program.{TaskDeclaration, ActuatorUpdate, ModeSwitch, TaskInvocation, ModeDeclaration, GiottoProgram, names_of}
use Rattle.giotto_rules.specs.Declarations.{driver_ports, task_named}
use Rattle.giotto_check.specs.cited.Facts.{ProgramFits}
use Rattle.giotto_rules.specs.Ports.{slot_of}
use Rattle.giotto_check.specs.Slots.{valuation_of}
use Rattle.giotto_check.specs.cited.Slots.{slots_of}
use Rattle.giotto_check.specs.declared.timetables.SlotExpr.{SlotExpr}
use Rattle.giotto_check.specs.declared.timetables.SlotUpdate.{SlotUpdate}
use Rattle.giotto_check.specs.declared.timetables.SlotDestination.{SlotDestination}
use Rattle.giotto_check.specs.declared.timetables.SlotExit.{SlotExit}
use Rattle.giotto_check.specs.declared.timetables.SlotInvocation.{SlotInvocation}
use Rattle.giotto_check.specs.declared.timetables.TaskSlots.{TaskSlots}
use Rattle.giotto_check.specs.declared.timetables.Timetable.{Timetable}
use Rattle.giotto_check.specs.declared.numbering.Numbering.{Numbering}

-- the lists have the same length, and the elements at each place are related
abbrev pub AreEach : {A B : Type 0} → (A → B → Type 0) → List A → List B → Type 0
AreEach R [] [] = Unit
AreEach R [] (y ∷ ys) = ⊥
AreEach R (x ∷ xs) [] = ⊥
AreEach R (x ∷ xs) (y ∷ ys) = R x y × AreEach R xs ys

-- the value of an expression over numbered ports, given the values of all ports
abbrev pub value_over : SlotExpr → List ℤ → ℤ
value_over c values = driver_value c.code values

-- the expression over numbered ports has the value of the expression over named ports
abbrev pub IsExpression : GiottoProgram → Expression → SlotExpr → Type 0
IsExpression p e c = (values : List ℤ) → length values ≡ slots_of p → value_over c values ≡ value_of e (valuation_of p values)

-- a guard, if there is one
abbrev pub IsGuard : GiottoProgram → Option Expression → Option SlotExpr → Type 0
IsGuard p None None = Unit
IsGuard p None (Some c) = ⊥
IsGuard p (Some e) None = ⊥
IsGuard p (Some e) (Some c) = IsExpression p e c

-- the place of the mode with this name, counted from 0
abbrev pub place_of_mode : GiottoProgram → Name → Option ℕ
place_of_mode p x = position_from (λ (m : ModeDeclaration). same_name m.name x) 0 p.modes

-- the place of the task with this name, counted from 0
abbrev pub place_of_task : GiottoProgram → Name → Option ℕ
place_of_task p x = position_from (λ (t : TaskDeclaration). same_name t.name x) 0 p.tasks

-- these ports of a task have consecutive slots, from this one on
abbrev pub HaveSlotsFrom : GiottoProgram → Name → List Name → ℕ → Type 0
HaveSlotsFrom p t names first = map (slot_of p (Some t)) names ≡ map Some (range_with_len first (length names))

-- these ports of a task have consecutive slots, from this one on, and there is a value for each
pub record AreInRow (p : GiottoProgram) (t : Name) (names : List Name) (first : ℕ) (values : List ℤ) : Type 0 where
  pub slots : HaveSlotsFrom p t names first
  pub long : length values ≡ length names

-- the ports that drivers of a well-formed program read, in the order of their slots
pub record AreDriverPorts (p : GiottoProgram) (names : List Name) : Type 0 where
  pub fits : ProgramFits p
  pub in_order : names ≡ driver_ports p

-- an update of the mode: it is due if the interval divides the mode time, and writes the slot of its actuator
pub record IsUpdate (p : GiottoProgram) (m : ModeDeclaration) (u : ActuatorUpdate) (entry : SlotUpdate) : Type 0 where
  pub interval : entry.interval ≡ m.period / u.frequency
  pub guard : IsGuard p u.guard entry.guard
  pub actuator : slot_of p None u.actuator ≡ Some entry.actuator
  pub value : IsExpression p u.value entry.value

-- a destination of a switch
pub record IsDestination (p : GiottoProgram) (d : Name × Expression) (entry : SlotDestination) : Type 0 where
  pub output : slot_of p None d.0 ≡ Some entry.output
  pub value : IsExpression p d.1 entry.value

-- the destinations of a switch, in text order
abbrev pub AreDestinations : GiottoProgram → List (Name × Expression) → List SlotDestination → Type 0
AreDestinations p ds entries = AreEach (IsDestination p) ds entries

-- a switch of the mode
pub record IsExit (p : GiottoProgram) (m : ModeDeclaration) (s : ModeSwitch) (entry : SlotExit) : Type 0 where
  pub interval : entry.interval ≡ m.period / s.frequency
  pub guard : IsGuard p s.guard entry.guard
  pub target : place_of_mode p s.target ≡ Some entry.target
  pub destinations : AreDestinations p s.destinations entry.destinations.items

-- the arguments of an invocation, in text order
abbrev pub AreArguments : GiottoProgram → List Expression → List SlotExpr → Type 0
AreArguments p es codes = AreEach (IsExpression p) es codes

-- an invocation of the mode
pub record IsInvocation (p : GiottoProgram) (m : ModeDeclaration) (i : TaskInvocation) (entry : SlotInvocation) : Type 0 where
  pub interval : entry.interval ≡ m.period / i.frequency
  pub guard : IsGuard p i.guard entry.guard
  pub task : place_of_task p i.task ≡ Some entry.task
  pub inputs : IsSomeAnd (task_named p i.task) (λ t. HaveSlotsFrom p t.name t.inputs entry.inputs)
  pub arguments : AreArguments p i.arguments entry.arguments.items

-- the updates of the mode, in text order
abbrev pub AreUpdates : GiottoProgram → ModeDeclaration → List SlotUpdate → Type 0
AreUpdates p m entries = AreEach (IsUpdate p m) m.updates entries

-- the switches of the mode, in text order
abbrev pub AreExits : GiottoProgram → ModeDeclaration → List SlotExit → Type 0
AreExits p m entries = AreEach (IsExit p m) m.switches entries

-- the invocations of the mode, in text order
abbrev pub AreInvocations : GiottoProgram → ModeDeclaration → List SlotInvocation → Type 0
AreInvocations p m entries = AreEach (IsInvocation p m) m.invocations entries

-- a task's slots: those of its inputs, its states and each output
pub record AreTaskSlots (p : GiottoProgram) (t : TaskDeclaration) (entry : TaskSlots) : Type 0 where
  pub inputs : HaveSlotsFrom p t.name t.inputs entry.inputs
  pub states : HaveSlotsFrom p t.name (names_of t.states) entry.states
  pub outputs : map (slot_of p None) t.outputs ≡ map Some entry.outputs.items

-- the timetables of a mode: its updates, exits and invocations
pub record IsTimetable (p : GiottoProgram) (m : ModeDeclaration) (table : Timetable) : Type 0 where
  pub updates : AreUpdates p m table.updates.items
  pub exits : AreExits p m table.exits.items
  pub invocations : AreInvocations p m table.invocations.items

-- the whole program by number
pub record IsNumbering (p : GiottoProgram) (n : Numbering) : Type 0 where
  pub slots : n.slots ≡ slots_of p
  pub tasks : AreEach (AreTaskSlots p) p.tasks n.tasks.items
  pub modes : AreEach (IsTimetable p) p.modes n.modes.items

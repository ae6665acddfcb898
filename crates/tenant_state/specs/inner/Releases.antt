-- What an entry of a mode's timetable represents when its task is released.
use Rattle.std.specs.Prelude.{◌≡◌, ◌≤◌, ℕ, ℤ, List, length}
use Rattle.tenant_slots.specs.well_formed.Slots.{valuation_of}
use Rattle.tenant_slots.specs.well_formed.cited.Timetables.{IsInvocation}
use Rattle.giotto_check.specs.declared.timetables.SlotInvocation.{SlotInvocation}
use Rattle.rig_model.specs.text.Program.{GiottoProgram, ModeDeclaration, TaskDeclaration, TaskInvocation}
use Rattle.rig_model.specs.Row.{ActiveTask}
use Rattle.rig_model.specs.SecondHalf.{released, with_inputs}
use Rattle.tenant_slots.specs.cited.Places.{IsTaskAt}

-- the entry represents an invocation in one of the modes, with as many arguments as its task has inputs, at most 16
pub record IsEntryOf (p : GiottoProgram) (entry : SlotInvocation) : Type 0 where
  pub mode : ModeDeclaration
  pub invocation : TaskInvocation
  pub task : TaskDeclaration
  pub is : IsInvocation p mode invocation entry
  pub there : IsTaskAt p entry.task task
  pub as_many : length invocation.arguments ≡ length task.inputs
  pub few : length entry.arguments.items ≤ 16

-- this holds of each invocation that the entry may represent, and its task
abbrev pub ForItsInvocation : GiottoProgram → SlotInvocation → (TaskInvocation → TaskDeclaration → Type 0) → Type 0
ForItsInvocation p entry P =
    (m : ModeDeclaration) (i : TaskInvocation) (t : TaskDeclaration) → IsInvocation p m i entry → IsTaskAt p entry.task t → P i t

-- the task that such an invocation makes active at this release, given the values in the slots
abbrev pub released_by : GiottoProgram → ℕ → List ℤ → TaskInvocation → TaskDeclaration → ActiveTask
released_by p release values i t = released release i (valuation_of p values) t

-- the values in the slots before and after such a release: the task's inputs have the values of the arguments
abbrev pub AreInputsGiven : GiottoProgram → SlotInvocation → List ℤ → List ℤ → Type 0
AreInputsGiven p entry before after = ForItsInvocation p entry (λ i t. valuation_of p after ≡ with_inputs i (valuation_of p before) t)

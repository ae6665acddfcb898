-- Whether the target mode of a switch continues the tasks that the switch can interrupt.
use Rattle.std.specs.Prelude.{ℕ, ◌/◌, ◌%◌, ◌==◌, Bool, false, ◌||◌, Option, Some, None}
use Rattle.std.specs.List.{list_all}
use Rattle.giotto_tasks.specs.declared.names.Name.{Name}
use Rattle.giotto_text.specs.Program.{ModeSwitch, TaskInvocation, ModeDeclaration, GiottoProgram}
use Rattle.giotto_rules.specs.Declarations.{mode_named, period_of_task}

-- the task has a period in the mode, and it is this one
abbrev pub is_period : Option ℕ → ℕ → Bool
is_period None ticks = false
is_period (Some period) ticks = period == ticks

-- the mode exists, and it invokes the task with a period of this many ticks
abbrev pub goes_on_with : Option ModeDeclaration → Name → ℕ → Bool
goes_on_with None task ticks = false
goes_on_with (Some m) task ticks = is_period (period_of_task m task) ticks

-- In a mode of this period, the switch is due only when the invocation ends, or the target invokes the task with the same period.
abbrev pub keeps_period : GiottoProgram → ℕ → ModeSwitch → TaskInvocation → Bool
keeps_period p period s i =
    (period / s.frequency) % (period / i.frequency) == 0 || goes_on_with (mode_named p s.target) i.task (period / i.frequency)

-- a switch keeps the period of each task that its mode invokes
abbrev pub switch_keeps_periods : GiottoProgram → ModeDeclaration → ModeSwitch → Bool
switch_keeps_periods p m s = list_all (keeps_period p m.period s) m.invocations

-- each switch of the mode keeps the period of each task that the mode invokes
abbrev pub mode_keeps_periods : GiottoProgram → ModeDeclaration → Bool
mode_keeps_periods p m = list_all (switch_keeps_periods p m) m.switches

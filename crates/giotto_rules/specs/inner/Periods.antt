-- The periods of tasks in modes, by the tasks' places.
use Rattle.std.specs.Prelude.{ℕ, ◌/◌, List, map, Option, Some, None, unwrap_or, slice_get}
use Rattle.std.specs.Option.{option_map}
use Rattle.giotto_tasks.specs.declared.names.Name.{Name}
use Rattle.giotto_text.specs.Program.{TaskInvocation, ModeDeclaration, GiottoProgram}
use Rattle.giotto_rules.specs.declared.rules.switches.Repetition.{Repetition}
use Rattle.giotto_rules.specs.Declarations.{mode_named, task_names, period_of_task}
use Rattle.giotto_tasks.specs.cited.Places.{place_from}

-- the number of ticks between two invocations of each task in the mode, if it invokes the task; tasks in text order
abbrev pub periods_in : GiottoProgram → ModeDeclaration → List (Option ℕ)
periods_in p m = map (period_of_task m) (task_names p)

-- the same for the mode with this name, if there is one
abbrev pub periods_in_named : GiottoProgram → Name → Option (List (Option ℕ))
periods_in_named p x = option_map (periods_in p) (mode_named p x)

-- the period at a task's place, if there are periods and the task has one
abbrev pub period_at : Option (List (Option ℕ)) → ℕ → Option ℕ
period_at None place = None
period_at (Some periods) place = unwrap_or (slice_get periods place) None

-- in a mode of this period: the number of ticks between two of these invocations, and the place of their task
abbrev pub repetition_of : GiottoProgram → ℕ → TaskInvocation → Repetition
repetition_of p period i = record { every = period / i.frequency; task = place_from 0 (task_names p) i.task }

-- the same for all invocations of a mode, in text order
abbrev pub repetitions_in : GiottoProgram → ModeDeclaration → List Repetition
repetitions_in p m = map (repetition_of p m.period) m.invocations

-- The names that the guards, updates, switches and invocations of a mode read.
use Rattle.std.specs.Prelude.{Option, Some, None, List, [], ◌++◌}
use Rattle.std.specs.List.{flat_map}
use Rattle.giotto_tasks.specs.declared.names.Name.{Name}
use Rattle.giotto_tasks.specs.Syntax.{Expression}
use Rattle.giotto_text.specs.Program.{ActuatorUpdate, ModeSwitch, TaskInvocation}
use Rattle.giotto_rules.specs.Declarations.{names_read}

-- an absent guard reads nothing
abbrev pub names_in_guard : Option Expression → List Name
names_in_guard None = []
names_in_guard (Some e) = names_read e

-- what an update reads in its guard and its value
abbrev pub names_in_update : ActuatorUpdate → List Name
names_in_update u = names_in_guard u.guard ++ names_read u.value

-- what destinations read in their values
abbrev pub names_in_destinations : List (Name × Expression) → List Name
names_in_destinations ds = flat_map (λ (d : Name × Expression). names_read d.1) ds

-- what a switch reads in its guard and in the values of its destinations
abbrev pub names_in_switch : ModeSwitch → List Name
names_in_switch s = names_in_guard s.guard ++ names_in_destinations s.destinations

-- what arguments read
abbrev pub names_in_arguments : List Expression → List Name
names_in_arguments es = flat_map names_read es

-- what an invocation reads in its guard and its arguments
abbrev pub names_in_invocation : TaskInvocation → List Name
names_in_invocation i = names_in_guard i.guard ++ names_in_arguments i.arguments

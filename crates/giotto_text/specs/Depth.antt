-- The depth of a program's expressions: how many of their operations are nested.
use Rattle.std.specs.Prelude.{nat_le, Bool, true, ◌&&◌, Option, Some, None}
use Rattle.std.specs.List.{list_all}
use Rattle.giotto_tasks.specs.declared.names.Name.{Name}
use Rattle.giotto_tasks.specs.Depth.{depth_of, depth_of_block}
use Rattle.giotto_tasks.specs.Syntax.{Expression}
use Rattle.giotto_text.specs.Program.{TaskDeclaration, ActuatorUpdate, ModeSwitch, TaskInvocation, ModeDeclaration, GiottoProgram}

-- at most 32 operations are nested
abbrev pub is_shallow : Expression → Bool
is_shallow e = nat_le (depth_of e) 32

-- the guard is shallow, if there is one
abbrev pub has_shallow_guard : Option Expression → Bool
has_shallow_guard None = true
has_shallow_guard (Some e) = is_shallow e

-- the guard and the value are shallow
abbrev pub is_shallow_update : ActuatorUpdate → Bool
is_shallow_update u = has_shallow_guard u.guard && is_shallow u.value

-- the guard and the value of each destination are shallow
abbrev pub is_shallow_switch : ModeSwitch → Bool
is_shallow_switch s = has_shallow_guard s.guard && list_all (λ (d : Name × Expression). is_shallow d.1) s.destinations

-- the guard and each argument are shallow
abbrev pub is_shallow_invocation : TaskInvocation → Bool
is_shallow_invocation i = has_shallow_guard i.guard && list_all is_shallow i.arguments

-- the drivers of the mode are shallow
abbrev pub is_shallow_mode : ModeDeclaration → Bool
is_shallow_mode m = list_all is_shallow_update m.updates && (list_all is_shallow_switch m.switches && list_all is_shallow_invocation m.invocations)

-- the expressions of the task's block are shallow
abbrev pub is_shallow_task : TaskDeclaration → Bool
is_shallow_task t = nat_le (depth_of_block t.block) 32

-- each expression of the program, in bodies and drivers, has at most 32 nested operations
abbrev pub is_shallow_program : GiottoProgram → Bool
is_shallow_program p = list_all is_shallow_task p.tasks && list_all is_shallow_mode p.modes

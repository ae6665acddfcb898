-- What names are used as: actuators, outputs, tasks and modes, where the grammar requires them.
use Rattle.std.specs.Prelude.{Bool, ◌&&◌, List}
use Rattle.std.specs.List.{list_all}
use Rattle.giotto_tasks.specs.declared.names.Name.{Name}
use Rattle.giotto_tasks.specs.Names.{is_among}
use Rattle.giotto_text.specs.Program.{TaskDeclaration, ActuatorUpdate, ModeSwitch, TaskInvocation, ModeDeclaration, GiottoProgram}
use Rattle.giotto_rules.specs.Declarations.{actuator_names, output_names, task_names, mode_names, driver_ports, destinations_of}
use Rattle.giotto_rules.specs.Names.{are_among}
use Rattle.giotto_rules.specs.Reads.{names_in_update, names_in_switch, names_in_invocation}

-- declared names, by what they may be used as
pub record Kinds : Type 0 where
  pub actuators : List Name
  pub outputs : List Name
  pub tasks : List Name
  pub modes : List Name
  -- what drivers may read
  pub ports : List Name

-- the kinds of a program's names
abbrev pub kinds_of : GiottoProgram → Kinds
kinds_of p = record { actuators = actuator_names p; outputs = output_names p; tasks = task_names p; modes = mode_names p; ports = driver_ports p }

-- a task writes outputs
abbrev pub task_uses : Kinds → TaskDeclaration → Bool
task_uses k t = are_among k.outputs t.outputs

-- an update writes an actuator, and reads ports
abbrev pub update_uses : Kinds → ActuatorUpdate → Bool
update_uses k u = is_among k.actuators u.actuator && are_among k.ports (names_in_update u)

-- a switch goes to a mode, gives values to outputs, and reads ports
abbrev pub switch_uses : Kinds → ModeSwitch → Bool
switch_uses k s = is_among k.modes s.target && are_among k.outputs (destinations_of s) && are_among k.ports (names_in_switch s)

-- an invocation invokes a task, and reads ports
abbrev pub invocation_uses : Kinds → TaskInvocation → Bool
invocation_uses k i = is_among k.tasks i.task && are_among k.ports (names_in_invocation i)

-- each driver of a mode uses names as what they are declared as
abbrev pub mode_uses : Kinds → ModeDeclaration → Bool
mode_uses k m = list_all (update_uses k) m.updates && list_all (switch_uses k) m.switches && list_all (invocation_uses k) m.invocations

-- each task and each mode of a program uses names as what they are declared as
abbrev pub program_uses : Kinds → GiottoProgram → Bool
program_uses k p = list_all (task_uses k) p.tasks && list_all (mode_uses k) p.modes

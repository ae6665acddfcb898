-- The ports of a program, in their order.
use Rattle.std.specs.Prelude.{ℕ, ◌+◌, Bool, true, false, ◌&&◌, List, ◌++◌, map, Option, Some, None}
use Rattle.std.specs.List.{flat_map, position_from}
use Rattle.std.specs.Option.{option_map_or}
use Rattle.giotto_tasks.specs.declared.names.Name.{Name}
use Rattle.giotto_tasks.specs.Names.{same_name}
use Rattle.giotto_text.specs.PortNames.{own_port}
use Rattle.giotto_text.specs.Program.{TaskDeclaration, GiottoProgram, names_of}
use Rattle.giotto_rules.specs.Declarations.{driver_ports}

-- a port: an input or a state of a task, or a sensor, an actuator or an output
pub record ProgramPort : Type 0 where
  pub task : Option Name
  pub name : Name

abbrev pub shared_port : Name → ProgramPort
shared_port x = record { task = None; name = x }

abbrev pub task_port : Name → Name → ProgramPort
task_port t x = record { task = Some t; name = x }

-- the displayed name of a port
abbrev pub shown_name : ProgramPort → Name
shown_name port = option_map_or (λ t. own_port t port.name) port.task port.name

-- the ports of a task: its inputs, then its states
abbrev pub ports_of_task : TaskDeclaration → List ProgramPort
ports_of_task t = map (task_port t.name) (t.inputs ++ names_of t.states)

-- all ports, in the order of their numbers: sensors, actuators, outputs, then for each task its inputs and its states, each in text order
abbrev pub ports_of : GiottoProgram → List ProgramPort
ports_of p = map shared_port (driver_ports p) ++ flat_map ports_of_task p.tasks

abbrev pub same_task : Option Name → Option Name → Bool
same_task None None = true
same_task None (Some u) = false
same_task (Some t) None = false
same_task (Some t) (Some u) = same_name t u

-- the port has this task, or none if none is given, and this name
abbrev pub is_port : Option Name → Name → ProgramPort → Bool
is_port task x port = same_task port.task task && same_name port.name x

-- the number of a port, counted from 0, if there is such a port
abbrev pub slot_of : GiottoProgram → Option Name → Name → Option ℕ
slot_of p task x = position_from (is_port task x) 0 (ports_of p)

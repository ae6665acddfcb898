-- The ports of a program and their values.
use Rattle.std.specs.Prelude.{Bool, ℤ, pos, ◌++◌, map, Option, Some, None}
use Rattle.std.specs.List.{flat_map}
use Rattle.std.specs.Option.{option_and_then}
use Rattle.giotto_tasks.specs.declared.names.Name.{Name}
use Rattle.giotto_tasks.specs.Arithmetic.{is_true}
use Rattle.giotto_tasks.specs.Names.{Valuation, value_at}
use Rattle.giotto_tasks.specs.Syntax.{Expression}
use Rattle.giotto_tasks.specs.Meaning.{value_of}
use Rattle.giotto_rules.specs.Ports.{shown_name, slot_of}
use Rattle.giotto_rules.specs.text.PortNames.{own_port, with_values}
use Rattle.giotto_rules.specs.text.Program.{SensorDeclaration, ActuatorDeclaration, OutputDeclaration, TaskDeclaration, GiottoProgram}

-- sensors, actuators and outputs with their initial values, each in text order
abbrev pub initial_shared : GiottoProgram → Valuation
initial_shared p =
    map (λ (s : SensorDeclaration). (s.name, s.initial)) p.sensors
    ++ (map (λ (a : ActuatorDeclaration). (a.name, a.initial)) p.actuators
    ++ map (λ (o : OutputDeclaration). (o.name, o.initial)) p.outputs)

-- a task's inputs, then its states
abbrev pub initial_of_task : TaskDeclaration → Valuation
initial_of_task t = map (λ x. (own_port t.name x, pos 0)) t.inputs ++ map (λ (s : Name × ℤ). (own_port t.name s.0, s.1)) t.states

-- the tasks' own ports with their initial values: each task's, in text order
abbrev pub initial_own : GiottoProgram → Valuation
initial_own p = flat_map initial_of_task p.tasks

-- every port with its initial value: sensors, actuators, outputs, then for each task its inputs and its states, each in text order
abbrev pub initial_ports : GiottoProgram → Valuation
initial_ports p = initial_shared p ++ initial_own p

-- every actuator with its initial value, all other ports as they are
abbrev pub actuators_reset : GiottoProgram → Valuation → Valuation
actuators_reset p ports = with_values ports (map (λ (a : ActuatorDeclaration). a.name) p.actuators) (map (λ (a : ActuatorDeclaration). a.initial) p.actuators)

-- a driver's guard: absent, or not 0
abbrev pub holds : Option Expression → Valuation → Bool
holds None ports = Bool.true
holds (Some e) ports = is_true (value_of e ports)

-- the value of a port, if the program has the port: an input or a state if a task is named
abbrev pub value_of_port : GiottoProgram → Valuation → Option Name → Name → Option ℤ
value_of_port p ports task x = option_and_then (λ slot. value_at ports (shown_name (record { task = task; name = x }))) (slot_of p task x)

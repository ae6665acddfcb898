-- The names of ports in replies, and a name with its value.
use Rattle.std.specs.Prelude.{ℤ, Some, None}
use Rattle.giotto_tasks.specs.declared.names.Name.{Name}
use Rattle.rig_model.specs.rules.Ports.{ProgramPort}
use Rattle.rig_model.specs.declared.lines.ports.PortName.{PortName}
use Rattle.rig_model.specs.declared.lines.ports.PortValue.{PortValue}

-- a port of the program, as replies name it
abbrev pub name_of_port : ProgramPort → PortName
name_of_port x = record { task = x.task; name = x.name }

-- the name of a sensor, an actuator or an output
abbrev pub name_of_shared_port : Name → PortName
name_of_shared_port x = record { task = None; name = x }

-- the name of an input or a state of a task
abbrev pub name_of_own_port : Name → Name → PortName
name_of_own_port t x = record { task = Some t; name = x }

-- a name with its value
abbrev pub with_its_value : PortName × ℤ → PortValue
with_its_value v = record { port = v.0; value = v.1 }

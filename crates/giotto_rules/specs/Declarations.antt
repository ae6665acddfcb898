-- What a program declares, looked up by name.
use Rattle.std.specs.Prelude.{ℕ, ◌/◌, List, [], ◌∷◌, ◌++◌, map, Option, Some, None}
use Rattle.std.specs.List.{find, filter_map, flat_map}
use Rattle.giotto_tasks.specs.declared.names.Name.{Name}
use Rattle.giotto_tasks.specs.Names.{same_name}
use Rattle.giotto_tasks.specs.Syntax.{Expression, number, port, unary, binary}
use Rattle.giotto_text.specs.Program.{Source, from_line, from_grant, SensorDeclaration, ActuatorDeclaration, TaskDeclaration, ActuatorUpdate, ModeSwitch, TaskInvocation, ModeDeclaration, GiottoProgram}

-- the sensors that a program declares, in text order
abbrev pub sensor_names : GiottoProgram → List Name
sensor_names p = map (λ s. s.name) p.sensors

-- its actuators
abbrev pub actuator_names : GiottoProgram → List Name
actuator_names p = map (λ a. a.name) p.actuators

-- its outputs
abbrev pub output_names : GiottoProgram → List Name
output_names p = map (λ o. o.name) p.outputs

-- its tasks
abbrev pub task_names : GiottoProgram → List Name
task_names p = map (λ t. t.name) p.tasks

-- its modes
abbrev pub mode_names : GiottoProgram → List Name
mode_names p = map (λ m. m.name) p.modes

-- the only names that a driver may read: sensors, actuators and outputs
abbrev pub driver_ports : GiottoProgram → List Name
driver_ports p = sensor_names p ++ (actuator_names p ++ output_names p)

-- the names of all five groups, which share one name space
abbrev pub declared_names : GiottoProgram → List Name
declared_names p = sensor_names p ++ (actuator_names p ++ (output_names p ++ (task_names p ++ mode_names p)))

-- the first task with this name
abbrev pub task_named : GiottoProgram → Name → Option TaskDeclaration
task_named p x = find (λ t. same_name t.name x) p.tasks

-- the first mode with this name
abbrev pub mode_named : GiottoProgram → Name → Option ModeDeclaration
mode_named p x = find (λ m. same_name m.name x) p.modes

-- the outputs of the task with this name; none if there is no such task
abbrev pub outputs_of_task : GiottoProgram → Name → List Name
outputs_of_task p x = outputs (task_named p x)
  where
    outputs : Option TaskDeclaration → List Name
    outputs None = []
    outputs (Some t) = t.outputs

-- the tasks that a mode invokes, in text order
abbrev pub invoked_tasks : ModeDeclaration → List Name
invoked_tasks m = map (λ (i : TaskInvocation). i.task) m.invocations

-- the actuators that a mode updates
abbrev pub updated_actuators : ModeDeclaration → List Name
updated_actuators m = map (λ (u : ActuatorUpdate). u.actuator) m.updates

-- the outputs to which a switch gives values
abbrev pub destinations_of : ModeSwitch → List Name
destinations_of s = map (λ d. d.0) s.destinations

-- the mode ports of a mode: the outputs of the tasks that it invokes
abbrev pub mode_ports : GiottoProgram → ModeDeclaration → List Name
mode_ports p m = flat_map (λ (i : TaskInvocation). outputs_of_task p i.task) m.invocations

-- the number of ticks between two invocations of a task in a mode, if the mode invokes it
abbrev pub period_of_task : ModeDeclaration → Name → Option ℕ
period_of_task m x = period (find (λ (i : TaskInvocation). same_name i.task x) m.invocations)
  where
    period : Option TaskInvocation → Option ℕ
    period None = None
    period (Some i) = Some (m.period / i.frequency)

-- the names that an expression reads
abbrev pub names_read : Expression → List Name
names_read (number z) = []
names_read (port x) = x ∷ []
names_read (unary o e) = names_read e
names_read (binary o a b) = names_read a ++ names_read b

-- the lines that sensors read
abbrev pub lines_read : GiottoProgram → List ℕ
lines_read p = filter_map (λ (s : SensorDeclaration). line s.source) p.sensors
  where
    line : Source → Option ℕ
    line (from_line k) = Some k
    line from_grant = None

-- the lines that actuators drive
abbrev pub lines_written : GiottoProgram → List ℕ
lines_written p = filter_map (λ (a : ActuatorDeclaration). a.line) p.actuators

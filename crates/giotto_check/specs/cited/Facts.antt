-- What follows from the rules for running a program: names occur once, frequencies divide, lists fit, and drivers are shallow.
use Rattle.std.specs.Prelude.{◌≡◌, ℕ, ◌/◌, ◌%◌, ◌≤◌, List, length, IsTrue, IsSomeAnd, IsSome}
use Rattle.std.specs.List.{AllByRecursion}
use Rattle.giotto_tasks.specs.declared.names.Name.{Name}
use Rattle.giotto_tasks.specs.Names.{is_among}
use Rattle.giotto_tasks.specs.Sound.{all_different, IsSound}
use Rattle.giotto_rules.specs.text.Depth.{is_shallow_update, is_shallow_switch, is_shallow_invocation}
use Rattle.giotto_rules.specs.text.Program.{TaskDeclaration, ActuatorUpdate, ModeSwitch, TaskInvocation, ModeDeclaration, GiottoProgram, body_of}
use Rattle.giotto_rules.specs.Declarations.{actuator_names, output_names, driver_ports, declared_names, task_named, mode_named, invoked_tasks, updated_actuators, destinations_of, mode_ports, lines_written}
use Rattle.giotto_rules.specs.Drivers.{readable_ports}
use Rattle.giotto_rules.specs.Names.{are_among, all_different_numbers}
use Rattle.giotto_rules.specs.Reads.{names_in_update, names_in_switch, names_in_invocation}
use Rattle.giotto_check.specs.cited.Slots.{PortNamesDiffer}

-- a frequency that divides the mode's period into intervals of at least one tick
pub record IsFrequencyOf (m : ModeDeclaration) (w : ℕ) : Type 0 where
  pub positive : 1 ≤ w
  pub divides : m.period % w ≡ 0
  pub interval : 1 ≤ m.period / w

-- a driver may read the ports with these names
abbrev pub DriversMayRead : GiottoProgram → List Name → Type 0
DriversMayRead p names = IsTrue (are_among (driver_ports p) names)

-- an update writes an actuator, reads ports of its mode, and is shallow
pub record UpdateFits (p : GiottoProgram) (m : ModeDeclaration) (u : ActuatorUpdate) : Type 0 where
  pub frequency : IsFrequencyOf m u.frequency
  pub actuator : IsTrue (is_among (actuator_names p) u.actuator)
  pub reads : IsTrue (are_among (mode_ports p m) (names_in_update u))
  pub shallow : IsTrue (is_shallow_update u)

-- a switch has a target mode and gives values to its ports, each once; it reads ports of its own mode and sensors; it is shallow
pub record SwitchFits (p : GiottoProgram) (m : ModeDeclaration) (s : ModeSwitch) : Type 0 where
  pub frequency : IsFrequencyOf m s.frequency
  pub target : IsSomeAnd (mode_named p s.target) (λ target. IsTrue (are_among (mode_ports p target) (destinations_of s)))
  pub destinations_once : IsTrue (all_different (destinations_of s))
  pub reads : IsTrue (are_among (readable_ports p m) (names_in_switch s))
  pub shallow : IsTrue (is_shallow_switch s)

-- an invocation has an argument for each input of its task, reads ports of its mode and sensors, and is shallow
pub record InvocationFits (p : GiottoProgram) (m : ModeDeclaration) (i : TaskInvocation) : Type 0 where
  pub frequency : IsFrequencyOf m i.frequency
  pub task : IsSomeAnd (task_named p i.task) (λ t. length i.arguments ≡ length t.inputs)
  pub reads : IsTrue (are_among (readable_ports p m) (names_in_invocation i))
  pub shallow : IsTrue (is_shallow_invocation i)

-- a mode of 1 to 1,000,000 ticks invokes a task once and updates an actuator once; its ports are outputs, each of one task
pub record ModeFits (p : GiottoProgram) (m : ModeDeclaration) : Type 0 where
  pub positive : 1 ≤ m.period
  pub short : m.period ≤ 1000000
  pub tasks_once : IsTrue (all_different (invoked_tasks m))
  pub actuators_once : IsTrue (all_different (updated_actuators m))
  pub ports_once : IsTrue (all_different (mode_ports p m))
  pub ports_are_outputs : IsTrue (are_among (output_names p) (mode_ports p m))
  pub updates : AllByRecursion (UpdateFits p m) m.updates
  pub switches : AllByRecursion (SwitchFits p m) m.switches
  pub invocations : AllByRecursion (InvocationFits p m) m.invocations

-- a task writes outputs, and its body can be evaluated
pub record TaskFits (p : GiottoProgram) (t : TaskDeclaration) : Type 0 where
  pub outputs : IsTrue (are_among (output_names p) t.outputs)
  pub sound : IsSound (body_of t)

-- a well-formed program: declared names differ, no line has two actuators, displayed port names differ, and the start mode exists
pub record ProgramFits (p : GiottoProgram) : Type 0 where
  pub declared_once : IsTrue (all_different (declared_names p))
  pub lines_once : IsTrue (all_different_numbers (lines_written p))
  pub ports_once : PortNamesDiffer p
  pub tasks : AllByRecursion (TaskFits p) p.tasks
  pub modes : AllByRecursion (ModeFits p) p.modes
  pub start : IsSome (mode_named p p.start)

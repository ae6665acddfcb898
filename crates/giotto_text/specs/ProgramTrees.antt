-- The trees that values of the program's own types represent.
use Rattle.std.specs.Prelude.{ℤ, List, map, Option, Some, None}
use Rattle.std.specs.List.{zip}
use Rattle.std.specs.Arc.{arc_value}
use Rattle.giotto_tasks.specs.Syntax.{Expression, TaskBody}
use Rattle.giotto_tasks.specs.Trees.{expression_of}
use Rattle.giotto_tasks.specs.declared.bodies.Expr.{Expr}
use Rattle.giotto_tasks.specs.declared.names.Name.{Name}
use Rattle.giotto_text.specs.Program as tree
use Rattle.giotto_text.specs.declared.programs.Source.{Source}
use Rattle.giotto_text.specs.declared.programs.Source.TheVariants.{Line, Grant}
use Rattle.giotto_text.specs.declared.programs.Sensor.{Sensor}
use Rattle.giotto_text.specs.declared.programs.Actuator.{Actuator}
use Rattle.giotto_text.specs.declared.programs.Output.{Output}
use Rattle.giotto_text.specs.declared.programs.Task.{Task}
use Rattle.giotto_text.specs.declared.programs.Mode.{Mode}
use Rattle.giotto_text.specs.declared.programs.Update.{Update}
use Rattle.giotto_text.specs.declared.programs.Switch.{Switch}
use Rattle.giotto_text.specs.declared.programs.Destination.{Destination}
use Rattle.giotto_text.specs.declared.programs.Invocation.{Invocation}

abbrev pub source_of : Source → tree.Source
source_of (Line k) = tree.from_line k
source_of Grant = tree.from_grant

abbrev pub sensor_of : Sensor → tree.SensorDeclaration
sensor_of s = record { name = s.name; initial = s.initial; source = source_of s.source }

abbrev pub actuator_of : Actuator → tree.ActuatorDeclaration
actuator_of a = record { name = a.name; initial = a.initial; line = a.line }

abbrev pub output_of : Output → tree.OutputDeclaration
output_of o = record { name = o.name; initial = o.initial }

-- a declaration with these initial values and this body
abbrev pub with_body : Name → List ℤ → TaskBody → tree.TaskDeclaration
with_body x states b = record { name = x; inputs = b.inputs; outputs = b.outputs; states = zip b.states states; block = b.block }

abbrev pub task_of : Task → tree.TaskDeclaration
task_of t = with_body t.name t.states (arc_value t.body)

abbrev pub guard_of : Option Expr → Option Expression
guard_of None = None
guard_of (Some e) = Some (expression_of e)

abbrev pub update_of : Update → tree.ActuatorUpdate
update_of u = record { frequency = u.frequency; guard = guard_of u.guard; actuator = u.actuator; value = expression_of u.value }

abbrev pub destination_of : Destination → Name × Expression
destination_of d = (d.output, expression_of d.value)

abbrev pub switch_of : Switch → tree.ModeSwitch
switch_of s = record { frequency = s.frequency; guard = guard_of s.guard; target = s.target; destinations = map destination_of s.destinations }

abbrev pub invocation_of : Invocation → tree.TaskInvocation
invocation_of i = record { frequency = i.frequency; guard = guard_of i.guard; task = i.task; arguments = map expression_of i.arguments }

abbrev pub mode_of : Mode → tree.ModeDeclaration
mode_of m = record { name = m.name; period = m.period; updates = map update_of m.updates; switches = map switch_of m.switches; invocations = map invocation_of m.invocations }

-- Programs, as trees: sensors, actuators and outputs, tasks, modes and the start mode, each list in text order.
use Rattle.std.specs.Prelude.{ℕ, ℤ, List, map, Option}
use Rattle.giotto_tasks.specs.declared.names.Name.{Name}
use Rattle.giotto_tasks.specs.Names.{Valuation}
use Rattle.giotto_tasks.specs.Syntax.{Expression, Block, TaskBody}

-- where a sensor's readings come from: a line of the rig, or the values that another tenant grants
pub data Source : Type 0 where
  from_line : ℕ → Source
  from_grant : Source

pub record SensorDeclaration : Type 0 where
  pub name : Name
  pub initial : ℤ
  pub source : Source

pub record ActuatorDeclaration : Type 0 where
  pub name : Name
  pub initial : ℤ
  -- the line of the rig that the actuator drives, if any
  pub line : Option ℕ

pub record OutputDeclaration : Type 0 where
  pub name : Name
  pub initial : ℤ

pub record TaskDeclaration : Type 0 where
  pub name : Name
  pub inputs : List Name
  pub outputs : List Name
  -- each state with its initial value
  pub states : Valuation
  pub block : Block

-- An absent guard is always true. An update, a switch or an invocation of frequency w happens w times in a period of its mode.
pub record ActuatorUpdate : Type 0 where
  pub frequency : ℕ
  pub guard : Option Expression
  pub actuator : Name
  pub value : Expression

pub record ModeSwitch : Type 0 where
  pub frequency : ℕ
  pub guard : Option Expression
  pub target : Name
  -- outputs, each with the expression whose value it gets
  pub destinations : List (Name × Expression)

pub record TaskInvocation : Type 0 where
  pub frequency : ℕ
  pub guard : Option Expression
  pub task : Name
  -- one for each input of the task, in their order
  pub arguments : List Expression

pub record ModeDeclaration : Type 0 where
  pub name : Name
  -- in ticks
  pub period : ℕ
  pub updates : List ActuatorUpdate
  pub switches : List ModeSwitch
  pub invocations : List TaskInvocation

pub record GiottoProgram : Type 0 where
  pub sensors : List SensorDeclaration
  pub actuators : List ActuatorDeclaration
  pub outputs : List OutputDeclaration
  pub tasks : List TaskDeclaration
  pub modes : List ModeDeclaration
  pub start : Name

abbrev pub names_of : Valuation → List Name
names_of states = map (λ v. v.0) states

abbrev pub body_of : TaskDeclaration → TaskBody
body_of t = record { inputs = t.inputs; outputs = t.outputs; states = names_of t.states; block = t.block }

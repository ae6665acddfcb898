-- The grammar: what may be written for each value. Each constructor is a grammar line, or an alternative of one.
use Rattle.std.specs.Prelude.{◌≡◌, ℕ, ◌^◌, ◌<◌, ◌≤◌, ℤ, pos, neg_ℤ, List, [], ◌∷◌, ◌++◌, map, Option, Some, None}
use Rattle.giotto_tasks.specs.declared.names.Name.{Name}
use Rattle.giotto_tasks.specs.declared.operators.UnaryOperator.{UnaryOperator}
use Rattle.giotto_tasks.specs.declared.operators.UnaryOperator.TheVariants as unary_operators
use Rattle.giotto_tasks.specs.declared.operators.BinaryOperator.{BinaryOperator}
use Rattle.giotto_tasks.specs.declared.operators.BinaryOperator.TheVariants as operators
use Rattle.giotto_tasks.specs.Syntax as body
use Rattle.giotto_tasks.specs.Syntax.{Expression, Statement, Block}
use Rattle.giotto_text.specs.declared.tokens.Keyword.{Keyword}
use Rattle.giotto_text.specs.declared.tokens.Keyword.TheVariants.{Sensor, Actuator, Output, Task, State, Mode, Period, ActFreq, ExitFreq, TaskFreq, Start, Do, If, Else, Repeat, Line, Grant}
use Rattle.giotto_text.specs.declared.tokens.Symbol.{Symbol}
use Rattle.giotto_text.specs.declared.tokens.Symbol.TheVariants.{Becomes, Semicolon, Comma, OpenParenthesis, CloseParenthesis, OpenBrace, CloseBrace, Plus, Minus, Star, Slash, Percent, EqualEqual, NotEqual, Less, AtMost, Greater, AtLeast, AndAnd, OrOr, Not}
use Rattle.giotto_text.specs.declared.tokens.Token.{Token}
use Rattle.giotto_text.specs.declared.tokens.Token.TheVariants as tokens
use Rattle.giotto_text.specs.Program.{Source, from_line, from_grant, SensorDeclaration, ActuatorDeclaration, OutputDeclaration, TaskDeclaration, ActuatorUpdate, ModeSwitch, TaskInvocation, ModeDeclaration, GiottoProgram}

-- A part of a grammar line: a token, or what is written for a value.
pub data Part : Type 0 where
  token : Token → Part
  program : GiottoProgram → Part
  sensor : SensorDeclaration → Part
  actuator : ActuatorDeclaration → Part
  output : OutputDeclaration → Part
  task : TaskDeclaration → Part
  state : Name × ℤ → Part
  block : Block → Part
  statement : Statement → Part
  mode : ModeDeclaration → Part
  update : ActuatorUpdate → Part
  switch : ModeSwitch → Part
  destination : Name × Expression → Part
  invocation : TaskInvocation → Part
  expression : Expression → Part
  operand : Expression → Part
  initial : ℤ → Part
  int : ℕ → Part

abbrev pub keyword : Keyword → Part
keyword k = token (tokens.Keyword k)

abbrev pub symbol : Symbol → Part
symbol s = token (tokens.Symbol s)

abbrev pub name : Name → Part
name x = token (tokens.Name x)

abbrev pub symbol_of_unary : UnaryOperator → Symbol
symbol_of_unary unary_operators.Negate = Minus
symbol_of_unary unary_operators.Not = Not

abbrev pub symbol_of_binary : BinaryOperator → Symbol
symbol_of_binary operators.Add = Plus
symbol_of_binary operators.Subtract = Minus
symbol_of_binary operators.Multiply = Star
symbol_of_binary operators.Divide = Slash
symbol_of_binary operators.Remainder = Percent
symbol_of_binary operators.Equal = EqualEqual
symbol_of_binary operators.NotEqual = NotEqual
symbol_of_binary operators.Less = Less
symbol_of_binary operators.AtMost = AtMost
symbol_of_binary operators.Greater = Greater
symbol_of_binary operators.AtLeast = AtLeast
symbol_of_binary operators.And = AndAnd
symbol_of_binary operators.Or = OrOr

-- x {"," x}, or nothing
abbrev pub separated : List Part → List Part
separated [] = []
separated (p ∷ []) = p ∷ []
separated (p ∷ q ∷ ps) = p ∷ symbol Comma ∷ separated (q ∷ ps)

-- a keyword and x {"," x}, or nothing
abbrev pub list_behind : Keyword → List Part → List Part
list_behind k [] = []
list_behind k (p ∷ ps) = keyword k ∷ separated (p ∷ ps)

-- "line" INT | "grant"
abbrev pub written_source : Source → List Part
written_source (from_line k) = keyword Line ∷ int k ∷ []
written_source from_grant = keyword Grant ∷ []

-- ["line" INT]
abbrev pub written_line : Option ℕ → List Part
written_line None = []
written_line (Some k) = keyword Line ∷ int k ∷ []

-- ["if" expr]
abbrev pub written_guard : Option Expression → List Part
written_guard None = []
written_guard (Some e) = keyword If ∷ expression e ∷ []

abbrev pub statements : Block → List Part
statements body.finished = []
statements (body.step s b) = statement s ∷ statements b

pub data IsWritten : Part → List Part → Type 0 where
  -- program = {sensor} {actuator} {output} {task} {mode} "start" NAME ";"
  a_program : {p : GiottoProgram} → IsWritten (program p)
      (map sensor p.sensors ++ (map actuator p.actuators ++ (map output p.outputs ++ (map task p.tasks ++ (map mode p.modes
      ++ keyword Start ∷ name p.start ∷ symbol Semicolon ∷ [])))))
  -- sensor = "sensor" NAME ":=" init ("line" INT | "grant") ";"
  a_sensor : {s : SensorDeclaration} → IsWritten (sensor s)
      (keyword Sensor ∷ name s.name ∷ symbol Becomes ∷ initial s.initial ∷ written_source s.source ++ symbol Semicolon ∷ [])
  -- actuator = "actuator" NAME ":=" init ["line" INT] ";"
  an_actuator : {a : ActuatorDeclaration} → IsWritten (actuator a)
      (keyword Actuator ∷ name a.name ∷ symbol Becomes ∷ initial a.initial ∷ written_line a.line ++ symbol Semicolon ∷ [])
  -- output = "output" NAME ":=" init ";"
  an_output : {o : OutputDeclaration} → IsWritten (output o)
      (keyword Output ∷ name o.name ∷ symbol Becomes ∷ initial o.initial ∷ symbol Semicolon ∷ [])
  -- task = "task" NAME "(" [NAME {"," NAME}] ")" ["output" NAME {"," NAME}] ["state" state {"," state}] block
  a_task : {t : TaskDeclaration} → IsWritten (task t)
      (keyword Task ∷ name t.name ∷ symbol OpenParenthesis ∷ separated (map name t.inputs) ++ (symbol CloseParenthesis
      ∷ list_behind Output (map name t.outputs) ++ (list_behind State (map state t.states) ++ block t.block ∷ [])))
  -- state = NAME ":=" init
  a_state : {s : Name × ℤ} → IsWritten (state s) (name s.0 ∷ symbol Becomes ∷ initial s.1 ∷ [])
  -- block = "{" {stmt} "}"
  a_block : {b : Block} → IsWritten (block b) (symbol OpenBrace ∷ statements b ++ symbol CloseBrace ∷ [])
  -- stmt = NAME ":=" expr ";" | "if" expr block ["else" block] | "repeat" INT block
  an_assignment : {x : Name} {e : Expression} → IsWritten (statement (body.assign x e)) (name x ∷ symbol Becomes ∷ expression e ∷ symbol Semicolon ∷ [])
  a_branch : {e : Expression} {b : Block} → IsWritten (statement (body.branch e b body.finished)) (keyword If ∷ expression e ∷ block b ∷ [])
  two_branches : {e : Expression} {b c : Block} → IsWritten (statement (body.branch e b c)) (keyword If ∷ expression e ∷ block b ∷ keyword Else ∷ block c ∷ [])
  a_repetition : {n : ℕ} {b : Block} → IsWritten (statement (body.repeat n b)) (keyword Repeat ∷ int n ∷ block b ∷ [])
  -- mode = "mode" NAME "period" INT "{" {act} {exit} {invoke} "}"
  a_mode : {m : ModeDeclaration} → IsWritten (mode m)
      (keyword Mode ∷ name m.name ∷ keyword Period ∷ int m.period ∷ symbol OpenBrace
      ∷ map update m.updates ++ (map switch m.switches ++ (map invocation m.invocations ++ symbol CloseBrace ∷ [])))
  -- act = "actfreq" INT ["if" expr] "do" NAME ":=" expr ";"
  an_update : {u : ActuatorUpdate} → IsWritten (update u)
      (keyword ActFreq ∷ int u.frequency ∷ written_guard u.guard ++ (keyword Do ∷ name u.actuator ∷ symbol Becomes ∷ expression u.value ∷ symbol Semicolon ∷ []))
  -- exit = "exitfreq" INT ["if" expr] "do" NAME ["{" {destination} "}"] ";"
  a_plain_switch : {s : ModeSwitch} → s.destinations ≡ [] → IsWritten (switch s)
      (keyword ExitFreq ∷ int s.frequency ∷ written_guard s.guard ++ (keyword Do ∷ name s.target ∷ symbol Semicolon ∷ []))
  a_switch : {s : ModeSwitch} → IsWritten (switch s)
      (keyword ExitFreq ∷ int s.frequency ∷ written_guard s.guard ++ (keyword Do ∷ name s.target ∷ symbol OpenBrace
      ∷ map destination s.destinations ++ (symbol CloseBrace ∷ symbol Semicolon ∷ [])))
  -- destination = NAME ":=" expr ";"
  a_destination : {d : Name × Expression} → IsWritten (destination d) (name d.0 ∷ symbol Becomes ∷ expression d.1 ∷ symbol Semicolon ∷ [])
  -- invoke = "taskfreq" INT ["if" expr] "do" NAME "(" [expr {"," expr}] ")" ";"
  an_invocation : {i : TaskInvocation} → IsWritten (invocation i)
      (keyword TaskFreq ∷ int i.frequency ∷ written_guard i.guard ++ (keyword Do ∷ name i.task ∷ symbol OpenParenthesis
      ∷ separated (map expression i.arguments) ++ symbol CloseParenthesis ∷ symbol Semicolon ∷ []))
  -- expr = unop prim | prim [binop prim]
  an_operand : {e : Expression} → IsWritten (expression e) (operand e ∷ [])
  a_unary : {o : UnaryOperator} {a : Expression} → IsWritten (expression (body.unary o a)) (symbol (symbol_of_unary o) ∷ operand a ∷ [])
  a_binary : {o : BinaryOperator} {a b : Expression} → IsWritten (expression (body.binary o a b)) (operand a ∷ symbol (symbol_of_binary o) ∷ operand b ∷ [])
  -- prim = INT | NAME | "(" expr ")"
  a_number : {n : ℕ} → IsWritten (operand (body.number (pos n))) (int n ∷ [])
  a_port : {x : Name} → IsWritten (operand (body.port x)) (name x ∷ [])
  in_parentheses : {e : Expression} → IsWritten (operand e) (symbol OpenParenthesis ∷ expression e ∷ symbol CloseParenthesis ∷ [])
  -- init = ["-"] INT, after "-" up to 9223372036854775808
  a_plain_initial : {n : ℕ} → IsWritten (initial (pos n)) (int n ∷ [])
  a_negative_initial : {n : ℕ} → n ≤ 2 ^ 63 → {z : ℤ} → z ≡ neg_ℤ (pos n) → IsWritten (initial z) (symbol Minus ∷ token (tokens.Number n) ∷ [])
  -- INT: at most 9223372036854775807
  an_int : {n : ℕ} → n < 2 ^ 63 → IsWritten (int n) (token (tokens.Number n) ∷ [])

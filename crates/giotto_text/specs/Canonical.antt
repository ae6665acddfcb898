-- The canonical text of a program: its tokens with one space between each two, without unnecessary parentheses, braces or zeros.
use Rattle.std.specs.Prelude.{ℕ, suc, ℤ, pos, negsuc, List, [], ◌∷◌, ◌++◌, map, Option, Some, None}
use Rattle.std.specs.List.{flat_map, join_with_byte}
use Rattle.std.specs.Fmt.{decimal}
use Rattle.giotto_tasks.specs.declared.names.Name.{Name}
use Rattle.giotto_tasks.specs.Syntax.{Expression, number, port, unary, binary, Statement, assign, branch, repeat, Block, finished, step}
use Rattle.giotto_text.specs.declared.tokens.Keyword.{Keyword}
use Rattle.giotto_text.specs.declared.tokens.Keyword.TheVariants.{Sensor, Actuator, Output, Task, State, Mode, Period, ActFreq, ExitFreq, TaskFreq, Start, Do, If, Else, Repeat, Line, Grant}
use Rattle.giotto_text.specs.declared.tokens.Symbol.{Symbol}
use Rattle.giotto_text.specs.declared.tokens.Symbol.TheVariants.{Becomes, Semicolon, Comma, OpenParenthesis, CloseParenthesis, OpenBrace, CloseBrace, Minus}
use Rattle.giotto_text.specs.declared.tokens.Token.{Token}
use Rattle.giotto_text.specs.declared.tokens.Token.TheVariants as tokens
use Rattle.giotto_text.specs.Grammar.{symbol_of_unary, symbol_of_binary}
use Rattle.giotto_text.specs.Tokens.{text_of_keyword, text_of_symbol}
use Rattle.giotto_text.specs.Program.{Source, from_line, from_grant, SensorDeclaration, ActuatorDeclaration, OutputDeclaration, TaskDeclaration, ActuatorUpdate, ModeSwitch, TaskInvocation, ModeDeclaration, GiottoProgram}

abbrev pub text_of : Token → List ℕ
text_of (tokens.Name x) = x
text_of (tokens.Keyword k) = text_of_keyword k
text_of (tokens.Number n) = decimal n
text_of (tokens.Symbol s) = text_of_symbol s

abbrev pub keyword : Keyword → Token
keyword k = tokens.Keyword k

abbrev pub symbol : Symbol → Token
symbol s = tokens.Symbol s

-- "-" and the absolute value, for a negative number
abbrev pub initial_tokens : ℤ → List Token
initial_tokens (pos n) = tokens.Number n ∷ []
initial_tokens (negsuc n) = symbol Minus ∷ tokens.Number (suc n) ∷ []

-- an operand that is itself an operation is put in parentheses
abbrev pub operand_tokens : Expression → List Token → List Token
operand_tokens (number z) ts = ts
operand_tokens (port x) ts = ts
operand_tokens (unary o e) ts = symbol OpenParenthesis ∷ ts ++ symbol CloseParenthesis ∷ []
operand_tokens (binary o a b) ts = symbol OpenParenthesis ∷ ts ++ symbol CloseParenthesis ∷ []

abbrev pub expression_tokens : Expression → List Token
expression_tokens (number z) = initial_tokens z
expression_tokens (port x) = tokens.Name x ∷ []
expression_tokens (unary o e) = symbol (symbol_of_unary o) ∷ operand_tokens e (expression_tokens e)
expression_tokens (binary o a b) = operand_tokens a (expression_tokens a) ++ symbol (symbol_of_binary o) ∷ operand_tokens b (expression_tokens b)

-- x {"," x}, or nothing
abbrev pub with_commas : List (List Token) → List Token
with_commas [] = []
with_commas (x ∷ []) = x
with_commas (x ∷ y ∷ xs) = x ++ symbol Comma ∷ with_commas (y ∷ xs)

-- a keyword followed by the list with commas, or nothing
abbrev pub optional_list : Keyword → List (List Token) → List Token
optional_list k [] = []
optional_list k (x ∷ xs) = keyword k ∷ with_commas (x ∷ xs)

abbrev pub in_braces : List Token → List Token
in_braces ts = symbol OpenBrace ∷ ts ++ symbol CloseBrace ∷ []

abbrev pub else_tokens : Block → List Token → List Token
else_tokens finished ts = []
else_tokens (step s b) ts = keyword Else ∷ in_braces ts

abbrev mutual
  pub statement_tokens : Statement → List Token
  statement_tokens (assign x e) = tokens.Name x ∷ symbol Becomes ∷ expression_tokens e ++ symbol Semicolon ∷ []
  statement_tokens (branch c a b) = keyword If ∷ expression_tokens c ++ (in_braces (block_tokens a) ++ else_tokens b (block_tokens b))
  statement_tokens (repeat n b) = keyword Repeat ∷ tokens.Number n ∷ in_braces (block_tokens b)

  pub block_tokens : Block → List Token
  block_tokens finished = []
  block_tokens (step s b) = statement_tokens s ++ block_tokens b

abbrev pub source_tokens : Source → List Token
source_tokens (from_line k) = keyword Line ∷ tokens.Number k ∷ []
source_tokens from_grant = keyword Grant ∷ []

abbrev pub line_tokens : Option ℕ → List Token
line_tokens None = []
line_tokens (Some k) = keyword Line ∷ tokens.Number k ∷ []

-- a keyword, a name and an initial value
abbrev pub declaration_tokens : Keyword → Name → ℤ → List Token
declaration_tokens k x z = keyword k ∷ tokens.Name x ∷ symbol Becomes ∷ initial_tokens z

abbrev pub sensor_tokens : SensorDeclaration → List Token
sensor_tokens s = declaration_tokens Sensor s.name s.initial ++ (source_tokens s.source ++ symbol Semicolon ∷ [])

abbrev pub actuator_tokens : ActuatorDeclaration → List Token
actuator_tokens a = declaration_tokens Actuator a.name a.initial ++ (line_tokens a.line ++ symbol Semicolon ∷ [])

abbrev pub output_tokens : OutputDeclaration → List Token
output_tokens o = declaration_tokens Output o.name o.initial ++ symbol Semicolon ∷ []

abbrev pub name_tokens : Name → List Token
name_tokens x = tokens.Name x ∷ []

-- a state and its initial value
abbrev pub state_tokens : Name × ℤ → List Token
state_tokens s = tokens.Name s.0 ∷ symbol Becomes ∷ initial_tokens s.1

abbrev pub task_tokens : TaskDeclaration → List Token
task_tokens t =
    keyword Task ∷ tokens.Name t.name ∷ symbol OpenParenthesis ∷ with_commas (map name_tokens t.inputs) ++ (symbol CloseParenthesis
    ∷ optional_list Output (map name_tokens t.outputs)
    ++ (optional_list State (map state_tokens t.states)
    ++ in_braces (block_tokens t.block)))

abbrev pub guard_tokens : Option Expression → List Token
guard_tokens None = []
guard_tokens (Some e) = keyword If ∷ expression_tokens e

-- a keyword, a frequency, a guard and "do"
abbrev pub at_frequency : Keyword → ℕ → Option Expression → List Token
at_frequency k w guard = keyword k ∷ tokens.Number w ∷ guard_tokens guard ++ keyword Do ∷ []

abbrev pub given_tokens : Name → Expression → List Token
given_tokens x e = tokens.Name x ∷ symbol Becomes ∷ expression_tokens e ++ symbol Semicolon ∷ []

abbrev pub update_tokens : ActuatorUpdate → List Token
update_tokens u = at_frequency ActFreq u.frequency u.guard ++ given_tokens u.actuator u.value

abbrev pub destination_tokens : List (Name × Expression) → List Token
destination_tokens [] = []
destination_tokens (d ∷ ds) = in_braces (flat_map (λ d. given_tokens d.0 d.1) (d ∷ ds))

abbrev pub switch_tokens : ModeSwitch → List Token
switch_tokens s = at_frequency ExitFreq s.frequency s.guard ++ tokens.Name s.target ∷ destination_tokens s.destinations ++ symbol Semicolon ∷ []

abbrev pub argument_tokens : List Expression → List Token
argument_tokens es = with_commas (map expression_tokens es)

abbrev pub invocation_tokens : TaskInvocation → List Token
invocation_tokens i = at_frequency TaskFreq i.frequency i.guard ++ tokens.Name i.task ∷ symbol OpenParenthesis ∷ argument_tokens i.arguments ++ symbol CloseParenthesis ∷ symbol Semicolon ∷ []

abbrev pub mode_tokens : ModeDeclaration → List Token
mode_tokens m =
    keyword Mode ∷ tokens.Name m.name ∷ keyword Period ∷ tokens.Number m.period
    ∷ in_braces (flat_map update_tokens m.updates ++ (flat_map switch_tokens m.switches ++ flat_map invocation_tokens m.invocations))

abbrev pub canonical_tokens : GiottoProgram → List Token
canonical_tokens p =
    flat_map sensor_tokens p.sensors ++ (flat_map actuator_tokens p.actuators ++ (flat_map output_tokens p.outputs ++ (flat_map task_tokens p.tasks ++ (flat_map mode_tokens p.modes
    ++ keyword Start ∷ tokens.Name p.start ∷ symbol Semicolon ∷ []))))

abbrev pub canonical_of : GiottoProgram → List ℕ
canonical_of p = join_with_byte 32 (map text_of (canonical_tokens p))

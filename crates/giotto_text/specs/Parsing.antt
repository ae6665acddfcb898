-- The parser, as a function that computes, with one definition for each grammar line.
use Rattle.std.specs.Prelude.{ℕ, zero, suc, ◌+◌, ◌-◌, ◌^◌, nat_eq, nat_le, Bool, true, false, not, if◌then◌else◌, ℤ, pos, neg_ℤ, List, [], ◌∷◌, length, Option, Some, None, is_some, Result, Ok, Err}
use Rattle.giotto_tasks.specs.Syntax as body
use Rattle.giotto_tasks.specs.Syntax.{Expression, Statement, Block}
use Rattle.giotto_tasks.specs.Names.{same_name}
use Rattle.giotto_tasks.specs.Trees.{in_order}
use Rattle.giotto_tasks.specs.declared.names.Name.{Name}
use Rattle.giotto_tasks.specs.declared.operators.BinaryOperator.{BinaryOperator}
use Rattle.giotto_tasks.specs.declared.operators.BinaryOperator.TheVariants as operators
use Rattle.giotto_tasks.specs.declared.operators.UnaryOperator.{UnaryOperator}
use Rattle.giotto_tasks.specs.declared.operators.UnaryOperator.TheVariants as unary_operators
use Rattle.giotto_text.specs.declared.faults.ReadFault.{ReadFault}
use Rattle.giotto_text.specs.declared.faults.ReadFault.TheVariants.{Syntax, TooDeep, TooMany}
use Rattle.giotto_text.specs.declared.tokens.Keyword.{Keyword}
use Rattle.giotto_text.specs.declared.tokens.Keyword.TheVariants.{Sensor, Actuator, Output, Task, State, Mode, Period, ActFreq, ExitFreq, TaskFreq, Start, Do, If, Else, Repeat, Line, Grant}
use Rattle.giotto_text.specs.declared.tokens.Symbol.{Symbol}
use Rattle.giotto_text.specs.declared.tokens.Symbol.TheVariants as symbols
use Rattle.giotto_text.specs.declared.tokens.Symbol.TheVariants.{Becomes, Semicolon, Comma, OpenParenthesis, CloseParenthesis, OpenBrace, CloseBrace, Minus}
use Rattle.giotto_text.specs.declared.tokens.Token.{Token}
use Rattle.giotto_text.specs.declared.tokens.Token.TheVariants as tokens
use Rattle.giotto_text.specs.declared.tokens.PlacedToken.{PlacedToken}
use Rattle.giotto_text.specs.Nesting.{nests_too_deep}
use Rattle.giotto_text.specs.Program.{Source, from_line, from_grant, SensorDeclaration, ActuatorDeclaration, OutputDeclaration, TaskDeclaration, ActuatorUpdate, ModeSwitch, TaskInvocation, ModeDeclaration, GiottoProgram}
use Rattle.giotto_text.specs.Reading.{has_small_tasks}
use Rattle.giotto_text.specs.Tokens.{Tokens, tokens_of, text_of_keyword, text_of_symbol, bare}

infixl 20 ◌>>=◌ ◌>>◌
-- A token that no program has; it marks the end.
abbrev pub end_mark : Token
end_mark = tokens.Number (2 ^ 63 + 1)

-- A value and the tokens after it, or the tokens from the first one that fits no grammar line.
pub data Outcome (V : Type 0) : Type 0 where
  got : V → List PlacedToken → Outcome V
  stopped : List PlacedToken → Outcome V

abbrev pub Parser : Type 0 → Type 0
Parser V = List PlacedToken → Outcome V

abbrev pub done : {V : Type 0} → V → Parser V
done v ts = got v ts

abbrev pub behind : {V W : Type 0} → Outcome V → (V → Parser W) → Outcome W
behind (got v rest) q = q v rest
behind (stopped rest) q = stopped rest

-- one parser after another
abbrev pub ◌>>=◌ : {V W : Type 0} → Parser V → (V → Parser W) → Parser W
◌>>=◌ p q ts = behind (p ts) q

abbrev pub ◌>>◌ : {V W : Type 0} → Parser V → Parser W → Parser W
◌>>◌ p q ts = behind (p ts) (λ _. q)

-- the next token, or the end mark
abbrev pub next_of : List PlacedToken → Token
next_of [] = end_mark
next_of (t ∷ ts) = t.token

abbrev pub taken : {V : Type 0} → Option V → List PlacedToken → List PlacedToken → Outcome V
taken (Some v) rest ts = got v rest
taken None rest ts = stopped ts

-- one token, with its content
abbrev pub read_one : {V : Type 0} → (Token → Option V) → Parser V
read_one f [] = stopped []
read_one f (t ∷ ts) = taken (f t.token) ts (t ∷ ts)

abbrev pub pick : {V : Type 0} → Bool → Parser V → Parser V → Parser V
pick true p q = p
pick false p q = q

-- one of two parsers, chosen by the next token
abbrev pub if_next : {V : Type 0} → (Token → Bool) → Parser V → Parser V → Parser V
if_next test p q ts = pick (test (next_of ts)) p q ts

-- repeated while the next token begins another one; each takes at least one token, so there are fewer than `bound`
abbrev pub up_to : {V : Type 0} → ℕ → (Token → Bool) → Parser V → Parser (List V)
up_to zero test p ts = stopped ts
up_to (suc bound) test p ts = if_next test
    (do
      v ← p
      vs ← up_to bound test p
      done (v ∷ vs))
    (done []) ts

abbrev pub many : {V : Type 0} → (Token → Bool) → Parser V → Parser (List V)
many test p ts = up_to (suc (length ts)) test p ts

abbrev pub same_token : Token → Token → Bool
same_token (tokens.Keyword k) (tokens.Keyword l) = same_name (text_of_keyword k) (text_of_keyword l)
same_token (tokens.Symbol s) (tokens.Symbol t) = same_name (text_of_symbol s) (text_of_symbol t)
same_token (tokens.Name x) (tokens.Name y) = same_name x y
same_token (tokens.Number m) (tokens.Number n) = nat_eq m n
same_token t u = false

abbrev pub this : Token → Token → Option (Unit {0})
this t u = if same_token t u then Some tt else None

abbrev pub read_token : Token → Parser (Unit {0})
read_token t = read_one (this t)

abbrev pub read_keyword : Keyword → Parser (Unit {0})
read_keyword k = read_token (tokens.Keyword k)

abbrev pub read_symbol : Symbol → Parser (Unit {0})
read_symbol s = read_token (tokens.Symbol s)

abbrev pub is_keyword : Keyword → Token → Bool
is_keyword k = same_token (tokens.Keyword k)

abbrev pub is_symbol : Symbol → Token → Bool
is_symbol s = same_token (tokens.Symbol s)

abbrev pub name_in : Token → Option Name
name_in (tokens.Name x) = Some x
name_in (tokens.Keyword k) = None
name_in (tokens.Number n) = None
name_in (tokens.Symbol s) = None

abbrev pub is_name : Token → Bool
is_name (tokens.Name x) = true
is_name (tokens.Keyword k) = false
is_name (tokens.Number n) = false
is_name (tokens.Symbol s) = false

-- a number up to this one
abbrev pub number_in : ℕ → Token → Option ℕ
number_in most (tokens.Number n) = if nat_le n most then Some n else None
number_in most (tokens.Keyword k) = None
number_in most (tokens.Name x) = None
number_in most (tokens.Symbol s) = None

abbrev pub read_name : Parser Name
read_name = read_one name_in

abbrev pub read_int : Parser ℕ
read_int = read_one (number_in (2 ^ 63 - 1))

-- the operator of a token, if it is one
abbrev pub unary_in : Token → Option UnaryOperator
unary_in (tokens.Symbol symbols.Minus) = Some unary_operators.Negate
unary_in (tokens.Symbol symbols.Not) = Some unary_operators.Not
unary_in t = None

abbrev pub binary_in : Token → Option BinaryOperator
binary_in (tokens.Symbol symbols.Plus) = Some operators.Add
binary_in (tokens.Symbol symbols.Minus) = Some operators.Subtract
binary_in (tokens.Symbol symbols.Star) = Some operators.Multiply
binary_in (tokens.Symbol symbols.Slash) = Some operators.Divide
binary_in (tokens.Symbol symbols.Percent) = Some operators.Remainder
binary_in (tokens.Symbol symbols.EqualEqual) = Some operators.Equal
binary_in (tokens.Symbol symbols.NotEqual) = Some operators.NotEqual
binary_in (tokens.Symbol symbols.Less) = Some operators.Less
binary_in (tokens.Symbol symbols.AtMost) = Some operators.AtMost
binary_in (tokens.Symbol symbols.Greater) = Some operators.Greater
binary_in (tokens.Symbol symbols.AtLeast) = Some operators.AtLeast
binary_in (tokens.Symbol symbols.AndAnd) = Some operators.And
binary_in (tokens.Symbol symbols.OrOr) = Some operators.Or
binary_in t = None

abbrev pub is_unary : Token → Bool
is_unary t = is_some (unary_in t)

abbrev pub is_binary : Token → Bool
is_binary t = is_some (binary_in t)

-- init = ["-"] INT
abbrev pub read_initial : Parser ℤ
read_initial = if_next (is_symbol Minus)
    (do
      read_symbol Minus
      n ← read_one (number_in (2 ^ 63))
      done (neg_ℤ (pos n)))
    (do
      n ← read_int
      done (pos n))

-- prim = INT | NAME | "(" expr ")"
abbrev pub read_operand_of : Parser Expression → Parser Expression
read_operand_of nested = if_next is_name
    (do
      x ← read_name
      done (body.port x))
    (if_next (is_symbol OpenParenthesis)
    (do
      read_symbol OpenParenthesis
      e ← nested
      read_symbol CloseParenthesis
      done e)
    (do
      n ← read_int
      done (body.number (pos n))))

-- expr = unop prim | prim [binop prim]
abbrev pub read_expression_of : Parser Expression → Parser Expression
read_expression_of nested = if_next is_unary
    (do
      o ← read_one unary_in
      a ← read_operand_of nested
      done (body.unary o a))
    (do
      a ← read_operand_of nested
      if_next is_binary
          (do
            o ← read_one binary_in
            b ← read_operand_of nested
            done (body.binary o a b))
          (done a))

-- expressions that are nested less deep than this bound
abbrev pub expressions : ℕ → Parser Expression
expressions zero = stopped
expressions (suc bound) = read_expression_of (expressions bound)

-- each level of nesting takes a token, so expressions are nested less deep than there are tokens
abbrev pub read_expression : Parser Expression
read_expression ts = expressions (suc (length ts)) ts

-- ["if" expr]
abbrev pub read_guard : Parser (Option Expression)
read_guard = if_next (is_keyword If)
    (do
      read_keyword If
      e ← read_expression
      done (Some e))
    (done None)

-- a keyword, NAME ":=" init
abbrev pub read_declaration : Keyword → Parser (Name × ℤ)
read_declaration k = do
  read_keyword k
  x ← read_name
  read_symbol Becomes
  z ← read_initial
  done (x, z)

-- "line" INT | "grant"
abbrev pub read_source : Parser Source
read_source = if_next (is_keyword Line)
    (do
      read_keyword Line
      k ← read_int
      done (from_line k))
    (do
      read_keyword Grant
      done from_grant)

-- sensor = "sensor" NAME ":=" init ("line" INT | "grant") ";"
abbrev pub read_sensor : Parser SensorDeclaration
read_sensor = do
  d ← read_declaration Sensor
  s ← read_source
  read_symbol Semicolon
  done (record { name = d.0; initial = d.1; source = s })

-- ["line" INT]
abbrev pub read_line : Parser (Option ℕ)
read_line = if_next (is_keyword Line)
    (do
      read_keyword Line
      k ← read_int
      done (Some k))
    (done None)

-- actuator = "actuator" NAME ":=" init ["line" INT] ";"
abbrev pub read_actuator : Parser ActuatorDeclaration
read_actuator = do
  d ← read_declaration Actuator
  line ← read_line
  read_symbol Semicolon
  done (record { name = d.0; initial = d.1; line = line })

-- output = "output" NAME ":=" init ";"
abbrev pub read_output : Parser OutputDeclaration
read_output = do
  d ← read_declaration Output
  read_symbol Semicolon
  done (record { name = d.0; initial = d.1 })

-- x {"," x}
abbrev pub read_list : {V : Type 0} → Parser V → Parser (List V)
read_list p = do
  x ← p
  xs ← many (is_symbol Comma) (do
    read_symbol Comma
    p)
  done (x ∷ xs)

-- "(" [x {"," x}] ")"
abbrev pub read_parentheses : {V : Type 0} → Parser V → Parser (List V)
read_parentheses p = do
  read_symbol OpenParenthesis
  if_next (is_symbol CloseParenthesis)
      (do
        read_symbol CloseParenthesis
        done [])
      (do
        xs ← read_list p
        read_symbol CloseParenthesis
        done xs)

-- [the keyword, x {"," x}]
abbrev pub read_list_behind : {V : Type 0} → Keyword → Parser V → Parser (List V)
read_list_behind k p = if_next (is_keyword k)
    (do
      read_keyword k
      xs ← read_list p
      done xs)
    (done [])

-- state = NAME ":=" init
abbrev pub read_state : Parser (Name × ℤ)
read_state = do
  x ← read_name
  read_symbol Becomes
  z ← read_initial
  done (x, z)

-- NAME ":=" expr ";"
abbrev pub read_assignment : Parser (Name × Expression)
read_assignment = do
  x ← read_name
  read_symbol Becomes
  e ← read_expression
  read_symbol Semicolon
  done (x, e)

-- ["else" block]
abbrev pub read_else_of : Parser Block → Parser Block
read_else_of nested = if_next (is_keyword Else)
    (do
      read_keyword Else
      b ← nested
      done b)
    (done body.finished)

-- "if" expr block ["else" block]
abbrev pub read_branch_of : Parser Block → Parser Statement
read_branch_of nested = do
  read_keyword If
  e ← read_expression
  a ← nested
  b ← read_else_of nested
  done (body.branch e a b)

-- "repeat" INT block
abbrev pub read_repetition_of : Parser Block → Parser Statement
read_repetition_of nested = do
  read_keyword Repeat
  n ← read_int
  b ← nested
  done (body.repeat n b)

-- stmt = NAME ":=" expr ";" | "if" expr block ["else" block] | "repeat" INT block
abbrev pub read_statement_of : Parser Block → Parser Statement
read_statement_of nested = if_next (is_keyword If) (read_branch_of nested)
    (if_next (is_keyword Repeat) (read_repetition_of nested)
    (do
      a ← read_assignment
      done (body.assign a.0 a.1)))

-- block = "{" {stmt} "}"
abbrev pub read_block_of : Parser Block → Parser Block
read_block_of nested = do
  read_symbol OpenBrace
  ss ← many (λ t. not (is_symbol CloseBrace t)) (read_statement_of nested)
  read_symbol CloseBrace
  done (in_order ss)

-- blocks that are nested less deep than this bound
abbrev pub blocks : ℕ → Parser Block
blocks zero = stopped
blocks (suc bound) = read_block_of (blocks bound)

abbrev pub read_block : Parser Block
read_block ts = blocks (suc (length ts)) ts

-- task = "task" NAME "(" [NAME {"," NAME}] ")" ["output" NAME {"," NAME}] ["state" state {"," state}] block
abbrev pub read_task : Parser TaskDeclaration
read_task = do
  read_keyword Task
  x ← read_name
  ins ← read_parentheses read_name
  outs ← read_list_behind Output read_name
  ss ← read_list_behind State read_state
  b ← read_block
  done (record { name = x; inputs = ins; outputs = outs; states = ss; block = b })

-- a keyword, INT ["if" expr] "do"
abbrev pub read_frequency : Keyword → Parser (ℕ × Option Expression)
read_frequency k = do
  read_keyword k
  n ← read_int
  g ← read_guard
  read_keyword Do
  done (n, g)

-- act = "actfreq" INT ["if" expr] "do" NAME ":=" expr ";"
abbrev pub read_update : Parser ActuatorUpdate
read_update = do
  f ← read_frequency ActFreq
  a ← read_assignment
  done (record { frequency = f.0; guard = f.1; actuator = a.0; value = a.1 })

-- ["{" {NAME ":=" expr ";"} "}"]
abbrev pub read_destinations : Parser (List (Name × Expression))
read_destinations = if_next (is_symbol OpenBrace)
    (do
      read_symbol OpenBrace
      ds ← many is_name read_assignment
      read_symbol CloseBrace
      done ds)
    (done [])

-- exit = "exitfreq" INT ["if" expr] "do" NAME ["{" {NAME ":=" expr ";"} "}"] ";"
abbrev pub read_switch : Parser ModeSwitch
read_switch = do
  f ← read_frequency ExitFreq
  x ← read_name
  ds ← read_destinations
  read_symbol Semicolon
  done (record { frequency = f.0; guard = f.1; target = x; destinations = ds })

-- invoke = "taskfreq" INT ["if" expr] "do" NAME "(" [expr {"," expr}] ")" ";"
abbrev pub read_invocation : Parser TaskInvocation
read_invocation = do
  f ← read_frequency TaskFreq
  x ← read_name
  es ← read_parentheses read_expression
  read_symbol Semicolon
  done (record { frequency = f.0; guard = f.1; task = x; arguments = es })

-- mode = "mode" NAME "period" INT "{" {act} {exit} {invoke} "}"
abbrev pub read_mode : Parser ModeDeclaration
read_mode = do
  read_keyword Mode
  x ← read_name
  read_keyword Period
  n ← read_int
  read_symbol OpenBrace
  us ← many (is_keyword ActFreq) read_update
  ss ← many (is_keyword ExitFreq) read_switch
  is ← many (is_keyword TaskFreq) read_invocation
  read_symbol CloseBrace
  done (record { name = x; period = n; updates = us; switches = ss; invocations = is })

-- "start" NAME ";"
abbrev pub read_start : Parser Name
read_start = do
  read_keyword Start
  x ← read_name
  read_symbol Semicolon
  done x

-- program = {sensor} {actuator} {output} {task} {mode} "start" NAME ";"
abbrev pub read_program : Parser GiottoProgram
read_program = do
  ss ← many (is_keyword Sensor) read_sensor
  as' ← many (is_keyword Actuator) read_actuator
  os ← many (is_keyword Output) read_output
  ds ← many (is_keyword Task) read_task
  ms ← many (is_keyword Mode) read_mode
  x ← read_start
  done (record { sensors = ss; actuators = as'; outputs = os; tasks = ds; modes = ms; start = x })

-- what an outcome says about the tokens of a text; `end` is the length of the text
abbrev pub reading : ℕ → Outcome GiottoProgram → Result GiottoProgram ReadFault
reading end (got p []) = if has_small_tasks p then Ok p else Err TooMany
reading end (got p (t ∷ ts)) = Err (Syntax t.offset)
reading end (stopped []) = Err (Syntax end)
reading end (stopped (t ∷ ts)) = Err (Syntax t.offset)

-- what tokens read as; tokens that nest too deep aren't parsed
abbrev pub read_all : ℕ → List PlacedToken → Result GiottoProgram ReadFault
read_all end ts = if nests_too_deep (bare ts) then Err TooDeep else reading end (read_program ts)

abbrev pub parsed_tokens : ℕ → Tokens → Result GiottoProgram ReadFault
parsed_tokens end (Ok ts) = read_all end ts
parsed_tokens end (Err offset) = Err (Syntax offset)

-- what a text reads as
abbrev pub parsed : List ℕ → Result GiottoProgram ReadFault
parsed text = parsed_tokens (length text) (tokens_of text)

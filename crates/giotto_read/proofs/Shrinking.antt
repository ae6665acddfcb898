-- After reading there are fewer tokens, or as many.
use Rattle.std.proofs.Common.{◌≡◌, ℕ, zero, suc, ◌-◌, ◌^◌, ◌<◌, ◌≤◌, Bool, true, false, List, [], ◌∷◌, length, Option, Some, None, refl, ap, arith}
use Rattle.std.specs.Prelude.{not}
use Rattle.giotto_tasks.specs.Syntax.{Expression, Block}
use Rattle.giotto_text.specs.declared.tokens.Keyword.{Keyword}
use Rattle.giotto_text.specs.declared.tokens.Keyword.TheVariants as keywords
use Rattle.giotto_text.specs.declared.tokens.PlacedToken.{PlacedToken}
use Rattle.giotto_text.specs.declared.tokens.Symbol.{Symbol}
use Rattle.giotto_text.specs.declared.tokens.Symbol.TheVariants as symbols
use Rattle.giotto_text.specs.declared.tokens.Token.{Token}
use Rattle.giotto_text.specs.declared.tokens.Token.TheVariants as tokens
use Rattle.giotto_text.specs.Parsing.{Outcome, got, stopped, Parser, done, behind, ◌>>=◌, next_of, taken, read_one, pick, if_next, up_to, many, this, is_symbol, is_keyword, is_name, is_unary, is_binary, name_in, number_in, unary_in, binary_in, read_name, read_initial, read_operand_of, read_expression_of, expressions, read_expression, read_guard, read_declaration, read_source, read_sensor, read_line, read_actuator, read_output, read_list, read_parentheses, read_list_behind, read_state, read_assignment, read_else_of, read_branch_of, read_repetition_of, read_statement_of, read_block_of, blocks, read_block, read_task, read_frequency, read_update, read_destinations, read_switch, read_invocation, read_mode}

pub record Shrinks {V : Type 0} (p : Parser V) : Type 0 where
  pub shorter : (ts : List PlacedToken) (v : V) (rest : List PlacedToken) → p ts ≡ got v rest → length rest ≤ length ts

-- each value takes at least one token
pub record Progresses {V : Type 0} (p : Parser V) : Type 0 where
  pub shorter : (ts : List PlacedToken) (v : V) (rest : List PlacedToken) → p ts ≡ got v rest → length rest < length ts

pub shrinks : {V : Type 0} {p : Parser V} → Progresses p → Shrinks p
shrinks h = record { shorter = λ ts v rest e. let less = h.shorter ts v rest e in omega (arith, less) }

abbrev rest_of : {V : Type 0} → Outcome V → List PlacedToken
rest_of (got v rest) = rest
rest_of (stopped rest) = rest

pub shrinks_done : {V : Type 0} (v : V) → Shrinks (done v)
shrinks_done v = record { shorter = λ ts w rest e. let same : length ts ≡ length rest = ap (λ o. length (rest_of o)) e in omega (arith, same) }

pub one_progresses : {V : Type 0} (f : Token → Option V) → Progresses (read_one f)
one_progresses {V = V} f = record { shorter = at }
  where
    by : (t : PlacedToken) (ts : List PlacedToken) (v : V) (rest : List PlacedToken) (o : Option V) → taken o ts (t ∷ ts) ≡ got v rest → length rest < length (t ∷ ts)
    by t ts v rest (Some w) e = let same : length ts ≡ length rest = ap (λ o. length (rest_of o)) e in omega (arith, same)
    by t ts v rest None e = absurd (cc)

    at : (ts : List PlacedToken) (v : V) (rest : List PlacedToken) → read_one f ts ≡ got v rest → length rest < length ts
    at [] v rest e = absurd (cc)
    at (t ∷ ts) v rest e = by t ts v rest (f t.token) e

pub shrinks_bind : {V W : Type 0} {p : Parser V} (q : V → Parser W) → Shrinks p → ((v : V) → Shrinks (q v)) → Shrinks (p >>= q)
shrinks_bind {V = V} {W = W} {p = p} q hp hq = record { shorter = λ ts w rest e. by ts w rest (p ts) refl e }
  where
    by : (ts : List PlacedToken) (w : W) (rest : List PlacedToken) (o : Outcome V) → p ts ≡ o → behind o q ≡ got w rest → length rest ≤ length ts
    by ts w rest (got v more) f e = let a = hp.shorter ts v more f in let b = (hq v).shorter more w rest e in omega (arith, a, b)
    by ts w rest (stopped more) f e = absurd (cc)

pub progresses_bind : {V W : Type 0} {p : Parser V} (q : V → Parser W) → Progresses p → ((v : V) → Shrinks (q v)) → Progresses (p >>= q)
progresses_bind {V = V} {W = W} {p = p} q hp hq = record { shorter = λ ts w rest e. by ts w rest (p ts) refl e }
  where
    by : (ts : List PlacedToken) (w : W) (rest : List PlacedToken) (o : Outcome V) → p ts ≡ o → behind o q ≡ got w rest → length rest < length ts
    by ts w rest (got v more) f e = let a = hp.shorter ts v more f in let b = (hq v).shorter more w rest e in omega (arith, a, b)
    by ts w rest (stopped more) f e = absurd (cc)

pub shrinks_if : {V : Type 0} (test : Token → Bool) {p q : Parser V} → Shrinks p → Shrinks q → Shrinks (if_next test p q)
shrinks_if {V = V} test {p = p} {q = q} hp hq = record { shorter = λ ts v rest e. by ts v rest (test (next_of ts)) e }
  where
    by : (ts : List PlacedToken) (v : V) (rest : List PlacedToken) (b : Bool) → pick b p q ts ≡ got v rest → length rest ≤ length ts
    by ts v rest true e = hp.shorter ts v rest e
    by ts v rest false e = hq.shorter ts v rest e

pub progresses_if : {V : Type 0} (test : Token → Bool) {p q : Parser V} → Progresses p → Progresses q → Progresses (if_next test p q)
progresses_if {V = V} test {p = p} {q = q} hp hq = record { shorter = λ ts v rest e. by ts v rest (test (next_of ts)) e }
  where
    by : (ts : List PlacedToken) (v : V) (rest : List PlacedToken) (b : Bool) → pick b p q ts ≡ got v rest → length rest < length ts
    by ts v rest true e = hp.shorter ts v rest e
    by ts v rest false e = hq.shorter ts v rest e

pub up_to_shrinks : {V : Type 0} (bound : ℕ) (test : Token → Bool) {p : Parser V} → Shrinks p → Shrinks (up_to bound test p)
up_to_shrinks zero test hp = record { shorter = λ ts v rest e. absurd (cc) }
up_to_shrinks (suc bound) test hp = shrinks_if test (shrinks_bind _ hp (λ v. shrinks_bind _ (up_to_shrinks bound test hp) (λ vs. shrinks_done (v ∷ vs)))) (shrinks_done [])

pub many_shrinks : {V : Type 0} (test : Token → Bool) {p : Parser V} → Shrinks p → Shrinks (many test p)
many_shrinks test hp = record { shorter = λ ts v rest e. (up_to_shrinks (suc (length ts)) test hp).shorter ts v rest e }

-- the grammar lines

keyword : (k : Keyword) → Progresses (read_one (this (tokens.Keyword k)))
keyword k = one_progresses (this (tokens.Keyword k))

symbol : (s : Symbol) → Shrinks (read_one (this (tokens.Symbol s)))
symbol s = shrinks (one_progresses (this (tokens.Symbol s)))

pub name : Progresses read_name
name = one_progresses name_in

pub int : Progresses (read_one (number_in (2 ^ 63 - 1)))
int = one_progresses (number_in (2 ^ 63 - 1))

initial : Progresses read_initial
initial =
    progresses_if (is_symbol symbols.Minus)
    (progresses_bind _ (one_progresses (this (tokens.Symbol symbols.Minus))) (λ _. shrinks_bind _ (shrinks (one_progresses (number_in (2 ^ 63)))) (λ n. shrinks_done _)))
    (progresses_bind _ int (λ n. shrinks_done _))

pub operand : {nested : Parser Expression} → Shrinks nested → Progresses (read_operand_of nested)
operand h =
    progresses_if is_name (progresses_bind _ name (λ x. shrinks_done _))
    (progresses_if (is_symbol symbols.OpenParenthesis)
    (progresses_bind _ (one_progresses (this (tokens.Symbol symbols.OpenParenthesis))) (λ _. shrinks_bind _ h (λ e. shrinks_bind _ (symbol symbols.CloseParenthesis) (λ _. shrinks_done _))))
    (progresses_bind _ int (λ n. shrinks_done _)))

expression_of : {nested : Parser Expression} → Shrinks nested → Progresses (read_expression_of nested)
expression_of h =
    progresses_if is_unary (progresses_bind _ (one_progresses unary_in) (λ o. shrinks_bind _ (shrinks (operand h)) (λ a. shrinks_done _)))
    (progresses_bind _ (operand h)
    (λ a. shrinks_if is_binary (shrinks_bind _ (shrinks (one_progresses binary_in)) (λ o. shrinks_bind _ (shrinks (operand h)) (λ b. shrinks_done _))) (shrinks_done _)))

pub expressions_shrink : (bound : ℕ) → Shrinks (expressions bound)
expressions_shrink zero = record { shorter = λ ts v rest e. absurd (cc) }
expressions_shrink (suc bound) = shrinks (expression_of (expressions_shrink bound))

pub expression : Progresses read_expression
expression = record { shorter = λ ts v rest e. (expression_of (expressions_shrink (length ts))).shorter ts v rest e }

guard : Shrinks read_guard
guard = shrinks_if (is_keyword keywords.If) (shrinks_bind _ (shrinks (keyword keywords.If)) (λ _. shrinks_bind _ (shrinks expression) (λ e. shrinks_done _))) (shrinks_done _)

declaration : (k : Keyword) → Progresses (read_declaration k)
declaration k = progresses_bind _ (keyword k) (λ _. shrinks_bind _ (shrinks name) (λ x. shrinks_bind _ (symbol symbols.Becomes) (λ _. shrinks_bind _ (shrinks initial) (λ z. shrinks_done _))))

source : Progresses read_source
source =
    progresses_if (is_keyword keywords.Line) (progresses_bind _ (keyword keywords.Line) (λ _. shrinks_bind _ (shrinks int) (λ k. shrinks_done _))) (progresses_bind _ (keyword keywords.Grant) (λ _. shrinks_done _))

pub sensor : Progresses read_sensor
sensor = progresses_bind _ (declaration keywords.Sensor) (λ d. shrinks_bind _ (shrinks source) (λ s. shrinks_bind _ (symbol symbols.Semicolon) (λ _. shrinks_done _)))

line : Shrinks read_line
line = shrinks_if (is_keyword keywords.Line) (shrinks_bind _ (shrinks (keyword keywords.Line)) (λ _. shrinks_bind _ (shrinks int) (λ k. shrinks_done _))) (shrinks_done _)

pub actuator : Progresses read_actuator
actuator = progresses_bind _ (declaration keywords.Actuator) (λ d. shrinks_bind _ line (λ l. shrinks_bind _ (symbol symbols.Semicolon) (λ _. shrinks_done _)))

pub output : Progresses read_output
output = progresses_bind _ (declaration keywords.Output) (λ d. shrinks_bind _ (symbol symbols.Semicolon) (λ _. shrinks_done _))

list : {V : Type 0} {p : Parser V} → Shrinks p → Shrinks (read_list p)
list h = shrinks_bind _ h (λ x. shrinks_bind _ (many_shrinks (is_symbol symbols.Comma) (shrinks_bind _ (symbol symbols.Comma) (λ _. h))) (λ xs. shrinks_done _))

parentheses : {V : Type 0} {p : Parser V} → Shrinks p → Shrinks (read_parentheses p)
parentheses h =
    shrinks_bind _ (symbol symbols.OpenParenthesis)
    (λ _. shrinks_if (is_symbol symbols.CloseParenthesis) (shrinks_bind _ (symbol symbols.CloseParenthesis) (λ _. shrinks_done _))
    (shrinks_bind _ (list h) (λ xs. shrinks_bind _ (symbol symbols.CloseParenthesis) (λ _. shrinks_done _))))

list_behind : {V : Type 0} {p : Parser V} (k : Keyword) → Shrinks p → Shrinks (read_list_behind k p)
list_behind k h = shrinks_if (is_keyword k) (shrinks_bind _ (shrinks (keyword k)) (λ _. shrinks_bind _ (list h) (λ xs. shrinks_done _))) (shrinks_done _)

pub state : Progresses read_state
state = progresses_bind _ name (λ x. shrinks_bind _ (symbol symbols.Becomes) (λ _. shrinks_bind _ (shrinks initial) (λ z. shrinks_done _)))

pub assignment : Progresses read_assignment
assignment =
    progresses_bind _ name (λ x. shrinks_bind _ (symbol symbols.Becomes) (λ _. shrinks_bind _ (shrinks expression) (λ e. shrinks_bind _ (symbol symbols.Semicolon) (λ _. shrinks_done _))))

pub else_of : {nested : Parser Block} → Shrinks nested → Shrinks (read_else_of nested)
else_of h = shrinks_if (is_keyword keywords.Else) (shrinks_bind _ (shrinks (keyword keywords.Else)) (λ _. shrinks_bind _ h (λ b. shrinks_done _))) (shrinks_done _)

branch_of : {nested : Parser Block} → Shrinks nested → Progresses (read_branch_of nested)
branch_of h = progresses_bind _ (keyword keywords.If) (λ _. shrinks_bind _ (shrinks expression) (λ e. shrinks_bind _ h (λ a. shrinks_bind _ (else_of h) (λ b. shrinks_done _))))

repetition_of : {nested : Parser Block} → Shrinks nested → Progresses (read_repetition_of nested)
repetition_of h = progresses_bind _ (keyword keywords.Repeat) (λ _. shrinks_bind _ (shrinks int) (λ n. shrinks_bind _ h (λ b. shrinks_done _)))

pub statement_of : {nested : Parser Block} → Shrinks nested → Progresses (read_statement_of nested)
statement_of h = progresses_if (is_keyword keywords.If) (branch_of h) (progresses_if (is_keyword keywords.Repeat) (repetition_of h) (progresses_bind _ assignment (λ a. shrinks_done _)))

block_of : {nested : Parser Block} → Shrinks nested → Progresses (read_block_of nested)
block_of h =
    progresses_bind _ (one_progresses (this (tokens.Symbol symbols.OpenBrace)))
    (λ _. shrinks_bind _ (many_shrinks (λ t. not (is_symbol symbols.CloseBrace t)) (shrinks (statement_of h))) (λ ss. shrinks_bind _ (symbol symbols.CloseBrace) (λ _. shrinks_done _)))

pub blocks_shrink : (bound : ℕ) → Shrinks (blocks bound)
blocks_shrink zero = record { shorter = λ ts v rest e. absurd (cc) }
blocks_shrink (suc bound) = shrinks (block_of (blocks_shrink bound))

pub block : Progresses read_block
block = record { shorter = λ ts v rest e. (block_of (blocks_shrink (length ts))).shorter ts v rest e }

pub task : Progresses read_task
task =
    progresses_bind _ (keyword keywords.Task)
    (λ _. shrinks_bind _ (shrinks name)
    (λ x. shrinks_bind _ (parentheses (shrinks name))
    (λ ins. shrinks_bind _ (list_behind keywords.Output (shrinks name))
    (λ outs. shrinks_bind _ (list_behind keywords.State (shrinks state)) (λ ss. shrinks_bind _ (shrinks block) (λ b. shrinks_done _))))))

frequency : (k : Keyword) → Progresses (read_frequency k)
frequency k = progresses_bind _ (keyword k) (λ _. shrinks_bind _ (shrinks int) (λ n. shrinks_bind _ guard (λ g. shrinks_bind _ (shrinks (keyword keywords.Do)) (λ _. shrinks_done _))))

pub update : Progresses read_update
update = progresses_bind _ (frequency keywords.ActFreq) (λ f. shrinks_bind _ (shrinks assignment) (λ a. shrinks_done _))

destinations : Shrinks read_destinations
destinations =
    shrinks_if (is_symbol symbols.OpenBrace)
    (shrinks_bind _ (symbol symbols.OpenBrace) (λ _. shrinks_bind _ (many_shrinks is_name (shrinks assignment)) (λ ds. shrinks_bind _ (symbol symbols.CloseBrace) (λ _. shrinks_done _)))) (shrinks_done _)

pub switch : Progresses read_switch
switch =
    progresses_bind _ (frequency keywords.ExitFreq)
    (λ f. shrinks_bind _ (shrinks name) (λ x. shrinks_bind _ destinations (λ ds. shrinks_bind _ (symbol symbols.Semicolon) (λ _. shrinks_done _))))

pub invocation : Progresses read_invocation
invocation =
    progresses_bind _ (frequency keywords.TaskFreq)
    (λ f. shrinks_bind _ (shrinks name) (λ x. shrinks_bind _ (parentheses (shrinks expression)) (λ es. shrinks_bind _ (symbol symbols.Semicolon) (λ _. shrinks_done _))))

pub mode : Progresses read_mode
mode =
    progresses_bind _ (keyword keywords.Mode)
    (λ _. shrinks_bind _ (shrinks name)
    (λ x. shrinks_bind _ (shrinks (keyword keywords.Period))
    (λ _. shrinks_bind _ (shrinks int)
    (λ n. shrinks_bind _ (symbol symbols.OpenBrace)
    (λ _. shrinks_bind _ (many_shrinks (is_keyword keywords.ActFreq) (shrinks update))
    (λ us. shrinks_bind _ (many_shrinks (is_keyword keywords.ExitFreq) (shrinks switch))
    (λ ss. shrinks_bind _ (many_shrinks (is_keyword keywords.TaskFreq) (shrinks invocation)) (λ is. shrinks_bind _ (symbol symbols.CloseBrace) (λ _. shrinks_done _)))))))))

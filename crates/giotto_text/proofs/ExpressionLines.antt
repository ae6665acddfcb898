-- The grammar lines of initial values and expressions, and their parsers.
use Rattle.std.proofs.Common.{◌≡◌, ℕ, zero, suc, ◌^◌, ◌≤◌, ◌⊎◌, inl, inr, Bool, true, false, ℤ, pos, List, ◌∷◌, ◌++◌, length, Option, Some, None, refl, ap, ◌∙◌, sym, arith}
use Rattle.std.specs.Prelude.{neg_ℤ, ◌||◌}
use Rattle.giotto_tasks.specs.Syntax as body
use Rattle.giotto_tasks.specs.Syntax.{Expression}
use Rattle.giotto_tasks.specs.declared.names.Name.{Name}
use Rattle.giotto_tasks.specs.declared.operators.BinaryOperator.{BinaryOperator}
use Rattle.giotto_tasks.specs.declared.operators.UnaryOperator.{UnaryOperator}
use Rattle.giotto_text.specs.declared.tokens.Keyword.TheVariants as keywords
use Rattle.giotto_text.specs.declared.tokens.Symbol.TheVariants as symbols
use Rattle.giotto_text.specs.declared.tokens.Token.{Token}
use Rattle.giotto_text.specs.declared.tokens.Token.TheVariants.{Number, Name as Named, Keyword as Word, Symbol as Mark}
use Rattle.giotto_text.specs.Grammar.{Part, IsWritten, initial, operand, expression, written_guard, symbol_of_unary, symbol_of_binary, a_plain_initial, a_negative_initial, an_operand as operand_line, a_unary, a_binary, a_number, a_port, in_parentheses}
use Rattle.giotto_text.specs.Parsing.{Parser, same_token, is_name, is_keyword, is_unary, is_binary, unary_in, binary_in, read_initial, read_operand_of, read_expression_of, expressions, read_expression, read_guard}
use Rattle.giotto_text.specs.Spelling.{BeginsParts}
use Rattle.giotto_text.proofs.Forms.{Form, closed, element, one, both, led, ended, either, optional, optional_parts, Fails, Writes, first_token_is, or_false, wider_closed, line_writes, same_writes}
use Rattle.giotto_text.proofs.ParserSteps.{Parses, bind, mapped, parsed_as, either_parses, optional_parses}
use Rattle.giotto_text.proofs.ParserTokens.{a_name, an_int, a_size, a_unary_operator, a_binary_operator, is_number, int_starts, unary_again, binary_again, no_some, begins_not, deeper_parses, led_parses, ended_parses, name_parses, size_parses, int_parses, unary_parses, binary_parses}
use Rattle.giotto_text.proofs.cited.SameToken.{is_this}

-- init = ["-"] INT

abbrev pub an_initial : Form ℤ
an_initial = one initial (pos 0)

abbrev minus : Token
minus = Mark symbols.Minus

abbrev InitialParts : Type 0
InitialParts = ((n : ℕ) × (n ≤ 2 ^ 63)) ⊎ ℕ

abbrev initial_steps : Form InitialParts
initial_steps = either (led minus a_size) an_int closed

abbrev initial_from : InitialParts → ℤ
initial_from (inl p) = neg_ℤ (pos p.0)
initial_from (inr n) = pos n

initial_is : (v : InitialParts) → IsWritten (initial (initial_from v)) (initial_steps.parts v)
initial_is (inl p) = a_negative_initial p.1 refl
initial_is (inr n) = a_plain_initial

initial_comes : {z : ℤ} {line : List Part} → IsWritten (initial z) line → (v : InitialParts) × (z ≡ initial_from v) × (line ≡ initial_steps.parts v)
initial_comes (a_plain_initial {n = n}) = (inr n, refl, refl)
initial_comes (a_negative_initial {n = n} le e) = (inl (n, le), e, refl)

initial_writes : Writes initial_steps an_initial initial_from
initial_writes = line_writes (λ w. refl) initial_is (λ w line. initial_comes) (λ t e. e)

minus_no_int : (t : Token) → same_token minus t ≡ true → (n : ℕ) → Fails closed t (an_int.parts n)
minus_no_int t e n us ps ex b = let no : true ≡ false = sym (int_starts t n us ps b) ∙ ap is_number (is_this minus t e) in cc

pub initial_parses : {n : ℕ} → Parses n an_initial (λ z. z) read_initial
initial_parses =
    parsed_as initial_writes
    (either_parses (λ t e. e) (λ t e. e) minus_no_int (begins_not minus a_size closed)
    (led_parses minus refl (mapped _ size_parses (λ v ts. refl)))
    (mapped _ int_parses (λ v ts. refl)))

-- prim = INT | NAME | "(" expr ")"

abbrev pub an_operand : Form Expression
an_operand = one operand (body.number (pos 0))

abbrev pub an_expression : Form Expression
an_expression = element expression (body.number (pos 0)) is_binary

abbrev pub opening : Token
opening = Mark symbols.OpenParenthesis

abbrev pub closing : Token
closing = Mark symbols.CloseParenthesis

abbrev nested_steps : Form Expression
nested_steps = led opening (ended an_expression closing)

abbrev OperandParts : Type 0
OperandParts = Name ⊎ (Expression ⊎ ℕ)

abbrev operand_steps : Form OperandParts
operand_steps = either a_name (either nested_steps an_int closed) closed

abbrev operand_from : OperandParts → Expression
operand_from (inl x) = body.port x
operand_from (inr (inl e)) = e
operand_from (inr (inr n)) = body.number (pos n)

operand_is : (v : OperandParts) → IsWritten (operand (operand_from v)) (operand_steps.parts v)
operand_is (inl x) = a_port
operand_is (inr (inl e)) = in_parentheses
operand_is (inr (inr n)) = a_number

operand_comes : {e : Expression} {line : List Part} → IsWritten (operand e) line → (v : OperandParts) × (e ≡ operand_from v) × (line ≡ operand_steps.parts v)
operand_comes (a_port {x = x}) = (inl x, refl, refl)
operand_comes (in_parentheses {e = e}) = (inr (inl e), refl, refl)
operand_comes (a_number {n = n}) = (inr (inr n), refl, refl)

operand_writes : Writes operand_steps an_operand operand_from
operand_writes = line_writes (λ w. refl) operand_is (λ w line. operand_comes) (λ t e. e)

abbrev begins_operand : Token → Bool
begins_operand (Number n) = true
begins_operand (Named x) = true
begins_operand (Word k) = false
begins_operand (Mark symbols.OpenParenthesis) = true
begins_operand (Mark s) = false

numbers_begin : (t : Token) → is_number t ≡ true → begins_operand t ≡ true
numbers_begin (Number n) e = refl
numbers_begin t e = absurd (cc)

operand_starts : (t : Token) (e : Expression) (us : List Token) (ps : List Part) → BeginsParts (t ∷ us) (operand e ∷ ps) → begins_operand t ≡ true
operand_starts t e us ps b = by (operand_writes.only e (t ∷ us) ps b)
  where
    by : (v : OperandParts) × BeginsParts (t ∷ us) (operand_steps.parts v ++ ps) → begins_operand t ≡ true
    by (inl x, c) = ap begins_operand (first_token_is t (Named x) us ps c)
    by (inr (inl e), c) = ap begins_operand (first_token_is t opening us _ c)
    by (inr (inr n), c) = numbers_begin t (int_starts t n us ps c)

name_test : (t : Token) → is_name t ≡ true → (w : Expression ⊎ ℕ) → Fails closed t ((either nested_steps an_int closed).parts w)
name_test t e (inl p) us ps ex b = let no : true ≡ false = sym e ∙ ap is_name (first_token_is t opening us _ b) in cc
name_test (Named x) e (inr n) us ps ex b = let no = int_starts (Named x) n us ps b in cc
name_test t e (inr n) us ps ex b = absurd (cc)

no_name : (t : Token) → is_name t ≡ false → (x : Name) → Fails closed t (a_name.parts x)
no_name t e x us ps ex b = let no : true ≡ false = ap is_name (sym (first_token_is t (Named x) us ps b)) ∙ e in cc

open_no_number : (t : Token) → same_token opening t ≡ true → (n : ℕ) → Fails closed t (an_int.parts n)
open_no_number t e n us ps ex b = let no : true ≡ false = sym (int_starts t n us ps b) ∙ ap is_number (is_this opening t e) in cc

operand_parses : {n : ℕ} (nested : Parser Expression) → Parses n an_expression (λ e. e) nested → Parses (suc n) an_operand (λ e. e) (read_operand_of nested)
operand_parses nested h =
    parsed_as operand_writes
    (either_parses (λ t e. e) (λ t e. e) name_test no_name
    (mapped _ name_parses (λ v ts. refl))
    (either_parses (λ t e. e) (λ t e. e) open_no_number (begins_not opening (ended an_expression closing) closed)
    (deeper_parses opening refl (ended_parses _ closing refl refl h (λ e ts. refl)))
    (mapped _ int_parses (λ v ts. refl))))

-- expr = unop prim | prim [binop prim]

abbrev operation_end : Form (Option (BinaryOperator × Expression))
operation_end = optional (both a_binary_operator an_operand) is_binary

abbrev ExpressionParts : Type 0
ExpressionParts = (UnaryOperator × Expression) ⊎ (Expression × Option (BinaryOperator × Expression))

abbrev expression_steps : Form ExpressionParts
expression_steps = either (both a_unary_operator an_operand) (both an_operand operation_end) is_binary

abbrev operation_from : Expression → Option (BinaryOperator × Expression) → Expression
operation_from a None = a
operation_from a (Some p) = body.binary p.0 a p.1

abbrev expression_from : ExpressionParts → Expression
expression_from (inl p) = body.unary p.0 p.1
expression_from (inr p) = operation_from p.0 p.1

operation_is : (a : Expression) (o : Option (BinaryOperator × Expression)) → IsWritten (expression (operation_from a o)) ((both an_operand operation_end).parts (a, o))
operation_is a None = operand_line
operation_is a (Some p) = a_binary

expression_is : (v : ExpressionParts) → IsWritten (expression (expression_from v)) (expression_steps.parts v)
expression_is (inl p) = a_unary
expression_is (inr p) = operation_is p.0 p.1

expression_comes : {e : Expression} {line : List Part} → IsWritten (expression e) line → (v : ExpressionParts) × (e ≡ expression_from v) × (line ≡ expression_steps.parts v)
expression_comes (operand_line {e = e}) = (inr (e, None), refl, refl)
expression_comes (a_unary {o = o} {a = a}) = (inl (o, a), refl, refl)
expression_comes (a_binary {o = o} {a = a} {b = c}) = (inr (a, Some (o, c)), refl, refl)

expression_writes : Writes expression_steps an_expression expression_from
expression_writes = line_writes (λ w. refl) expression_is (λ w line. expression_comes) (λ t e. e)

unary_no_operand : (t : Token) → is_unary t ≡ true → begins_operand t ≡ false
unary_no_operand (Mark symbols.Minus) e = refl
unary_no_operand (Mark symbols.Not) e = refl
unary_no_operand t e = absurd (cc)

unary_test : (t : Token) → is_unary t ≡ true → (w : Expression × Option (BinaryOperator × Expression)) → Fails is_binary t ((both an_operand operation_end).parts w)
unary_test t e w us ps ex b = let no : true ≡ false = sym (operand_starts t w.0 us (operation_end.parts w.1 ++ ps) b) ∙ unary_no_operand t e in cc

unary_first : (t : Token) (v : UnaryOperator × Expression) (us : List Token) (ps : List Part) → BeginsParts (t ∷ us) ((both a_unary_operator an_operand).parts v ++ ps) → unary_in t ≡ Some v.0
unary_first t v us ps b = ap unary_in (first_token_is t (Mark (symbol_of_unary v.0)) us _ b) ∙ unary_again v.0

no_unary : (t : Token) → is_unary t ≡ false → (v : UnaryOperator × Expression) → Fails is_binary t ((both a_unary_operator an_operand).parts v)
no_unary t e v us ps ex b = no_some (unary_in t) v.0 e (unary_first t v us ps b)

no_binary : (t : Token) → is_binary t ≡ false → (v : BinaryOperator × Expression) → Fails operation_end.goes_on t ((both a_binary_operator an_operand).parts v)
no_binary t e v us ps ex b = no_some (binary_in t) v.0 e (ap binary_in (first_token_is t (Mark (symbol_of_binary v.0)) us _ b) ∙ binary_again v.0)

expression_parses : {n : ℕ} (nested : Parser Expression) → Parses n an_expression (λ e. e) nested → Parses (suc n) an_expression (λ e. e) (read_expression_of nested)
expression_parses nested h =
    parsed_as expression_writes
    (either_parses (wider_closed is_binary) (λ t. or_false (is_binary t)) unary_test no_unary
    (bind _ (λ t. refl) unary_parses (λ o. mapped _ (operand_parses nested h) (λ v ts. refl)))
    (bind _ (λ t. refl) (operand_parses nested h)
    (λ a. optional_parses no_binary
    (bind _ (λ t. refl) binary_parses (λ o. mapped _ (operand_parses nested h) (λ v ts. refl)))
    (λ ts. refl))))

-- the bound on the depth is a bound on the number of tokens
bounded_expressions : (n : ℕ) → Parses n an_expression (λ e. e) (expressions n)
bounded_expressions zero ts lt = absurd (omega arith)
bounded_expressions (suc n) ts lt = expression_parses (expressions n) (bounded_expressions n) ts lt

pub expressions_parse : {n : ℕ} → Parses n an_expression (λ e. e) read_expression
expressions_parse ts lt = bounded_expressions (suc (length ts)) ts (omega arith)

-- no expression begins with ")"
pub no_expression_closed : (us : List Token) (e : Expression) (ps : List Part) → ¬ BeginsParts (closing ∷ us) (expression e ∷ ps)
no_expression_closed us e ps b = by (expression_writes.only e (closing ∷ us) ps b)
  where
    by : (v : ExpressionParts) × BeginsParts (closing ∷ us) (expression_steps.parts v ++ ps) → ⊥
    by (inl p, c) = let no = unary_first closing p us ps c in cc
    by (inr p, c) = let no = operand_starts closing p.0 us (operation_end.parts p.1 ++ ps) c in cc

-- ["if" expr]

abbrev if_token : Token
if_token = Word keywords.If

abbrev pub a_guard : Form (Option Expression)
a_guard = record { parts = written_guard; some = None; goes_on = λ t. is_keyword keywords.If t || is_binary t }

guard_parts : (g : Option Expression) → optional_parts (led if_token an_expression) g ≡ written_guard g
guard_parts None = refl
guard_parts (Some e) = refl

guard_writes : Writes (optional (led if_token an_expression) (is_keyword keywords.If)) a_guard (λ g. g)
guard_writes = same_writes guard_parts (λ w. (w, refl)) (λ t e. e)

pub guard_parses : {n : ℕ} → Parses n a_guard (λ g. g) read_guard
guard_parses =
    parsed_as guard_writes
    (optional_parses (begins_not if_token an_expression a_guard.goes_on)
    (led_parses if_token refl (mapped _ expressions_parse (λ v ts. refl)))
    (λ ts. refl))

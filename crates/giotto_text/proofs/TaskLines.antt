-- The grammar lines of statements, blocks and tasks, and their parsers.
use Rattle.std.proofs.Common.{◌≡◌, ◌⊎◌, inl, inr, ℕ, zero, suc, Bool, true, false, ℤ, pos, List, [], ◌∷◌, ◌++◌, length, map, Option, Some, None, refl, sym, ap, ◌∙◌, subst, arith}
use Rattle.std.specs.Prelude.{not}
use Rattle.std.specs.List.{flat_map}
use Rattle.std.proofs.lemmas.List.{append_assoc}
use Rattle.giotto_tasks.specs.Syntax as body
use Rattle.giotto_tasks.specs.Syntax.{Expression, Statement, Block}
use Rattle.giotto_tasks.specs.Trees.{in_order}
use Rattle.giotto_tasks.specs.declared.names.Name.{Name}
use Rattle.giotto_text.specs.declared.tokens.Keyword.TheVariants as keywords
use Rattle.giotto_text.specs.declared.tokens.Symbol.TheVariants as symbols
use Rattle.giotto_text.specs.declared.tokens.Token.{Token}
use Rattle.giotto_text.specs.declared.tokens.Token.TheVariants.{Number, Name as Named, Keyword as Word, Symbol as Mark}
use Rattle.giotto_text.specs.Grammar.{Part, IsWritten, name, symbol, keyword, state, statement, statements, block, task, separated, list_behind, a_state as state_line, an_assignment as assignment_line, a_branch, two_branches, a_repetition, a_block as block_line, a_task as task_line}
use Rattle.giotto_text.specs.Parsing.{Parser, same_token, is_keyword, is_symbol, read_state, read_assignment, read_else_of, read_branch_of, read_repetition_of, read_statement_of, read_block_of, blocks, read_block, read_task}
use Rattle.giotto_text.specs.Program.{TaskDeclaration}
use Rattle.giotto_text.specs.Spelling.{BeginsParts, line_begun}
use Rattle.giotto_text.proofs.Forms.{Form, closed, element, one, led, ended, both, either, many, optional, Fails, AreApart, Begins, Repeats, Writes, first_token_is, or_false, wider_closed, apart_first, apart_both, line_writes}
use Rattle.giotto_text.proofs.ParserSteps.{Parses, bind, bind_apart, mapped, parsed_as, either_parses, optional_parses, many_parses}
use Rattle.giotto_text.proofs.ParserTokens.{a_name, an_int, begins_not, repeats_of, deeper_parses, led_parses, ended_parses, name_parses, int_parses}
use Rattle.giotto_text.proofs.cited.SameToken.{is_this}
use Rattle.giotto_text.proofs.ExpressionLines.{an_initial, an_expression, closing, initial_parses, expressions_parse}
use Rattle.giotto_text.proofs.DeclarationLines.{becomes, semicolon}
use Rattle.giotto_text.proofs.ListLines.{in_parentheses, behind, parentheses_parse, behind_parses, behind_begins}

abbrev pub opening_brace : Token
opening_brace = Mark symbols.OpenBrace

abbrev pub closing_brace : Token
closing_brace = Mark symbols.CloseBrace

-- NAME ":=" expr ";"

abbrev pub an_assignment : Form (Name × Expression)
an_assignment = both a_name (led becomes (ended an_expression semicolon))

pub assignment_parses : {n : ℕ} → Parses n an_assignment (λ a. a) read_assignment
assignment_parses =
    bind _ (λ t. refl) name_parses
    (λ x. led_parses becomes refl
    (ended_parses _ semicolon refl refl expressions_parse (λ v ts. refl)))

-- stmt = NAME ":=" expr ";" | "if" expr block ["else" block] | "repeat" INT block

abbrev if_token : Token
if_token = Word keywords.If

abbrev else_token : Token
else_token = Word keywords.Else

abbrev repeat_token : Token
repeat_token = Word keywords.Repeat

abbrev is_else : Token → Bool
is_else = is_keyword keywords.Else

abbrev pub a_block : Form Block
a_block = one block body.finished

abbrev pub a_statement : Form Statement
a_statement = element statement (body.assign [] (body.number (pos 0))) is_else

abbrev else_steps : Form (Option Block)
else_steps = optional (led else_token a_block) is_else

abbrev else_from : Option Block → Block
else_from None = body.finished
else_from (Some b) = b

abbrev branch_steps : Form (Expression × (Block × Option Block))
branch_steps = led if_token (both an_expression (both a_block else_steps))

abbrev repetition_steps : Form (ℕ × Block)
repetition_steps = led repeat_token (both an_int a_block)

abbrev StatementParts : Type 0
StatementParts = (Expression × (Block × Option Block)) ⊎ ((ℕ × Block) ⊎ (Name × Expression))

abbrev statement_steps : Form StatementParts
statement_steps = either branch_steps (either repetition_steps an_assignment closed) is_else

abbrev statement_from : StatementParts → Statement
statement_from (inl p) = body.branch p.0 p.1.0 (else_from p.1.1)
statement_from (inr (inl p)) = body.repeat p.0 p.1
statement_from (inr (inr p)) = body.assign p.0 p.1

branch_is : (e : Expression) (b : Block) (o : Option Block) → IsWritten (statement (body.branch e b (else_from o))) (branch_steps.parts (e, (b, o)))
branch_is e b None = a_branch
branch_is e b (Some c) = two_branches

statement_is : (v : StatementParts) → IsWritten (statement (statement_from v)) (statement_steps.parts v)
statement_is (inl p) = branch_is p.0 p.1.0 p.1.1
statement_is (inr (inl p)) = a_repetition
statement_is (inr (inr p)) = assignment_line

statement_comes : {s : Statement} {line : List Part} → IsWritten (statement s) line → (v : StatementParts) × (s ≡ statement_from v) × (line ≡ statement_steps.parts v)
statement_comes (assignment_line {x = x} {e = e}) = (inr (inr (x, e)), refl, refl)
statement_comes (a_branch {e = e} {b = b}) = (inl (e, (b, None)), refl, refl)
statement_comes (two_branches {e = e} {b = b} {c = c}) = (inl (e, (b, Some c)), refl, refl)
statement_comes (a_repetition {n = n} {b = b}) = (inr (inl (n, b)), refl, refl)

statement_writes : Writes statement_steps a_statement statement_from
statement_writes = line_writes (λ w. refl) statement_is (λ w line. statement_comes) (λ t e. e)

abbrev pub begins_statement : Token → Bool
begins_statement (Named x) = true
begins_statement (Word keywords.If) = true
begins_statement (Word keywords.Repeat) = true
begins_statement (Word k) = false
begins_statement (Number n) = false
begins_statement (Mark s) = false

statement_starts : (t : Token) (us : List Token) (s : Statement) (ps : List Part) → BeginsParts (t ∷ us) (statement s ∷ ps) → begins_statement t ≡ true
statement_starts t us s ps b = by (statement_writes.only s (t ∷ us) ps b)
  where
    by : (v : StatementParts) × BeginsParts (t ∷ us) (statement_steps.parts v ++ ps) → begins_statement t ≡ true
    by (inl p, c) = ap begins_statement (first_token_is t if_token us _ c)
    by (inr (inl p), c) = ap begins_statement (first_token_is t repeat_token us _ c)
    by (inr (inr p), c) = ap begins_statement (first_token_is t (Named p.0) us _ c)

no_else : (t : Token) → begins_statement t ≡ true → is_else t ≡ false
no_else (Named x) e = refl
no_else (Word keywords.If) e = refl
no_else (Word keywords.Repeat) e = refl
no_else t e = absurd (cc)

pub statement_repeats : Repeats a_statement begins_statement
statement_repeats = record { starts = statement_starts; apart = no_else; other = refl }

if_test : (t : Token) → same_token if_token t ≡ true → (w : (ℕ × Block) ⊎ (Name × Expression)) → Fails is_else t ((either repetition_steps an_assignment closed).parts w)
if_test t e (inl p) us ps ex b = let no : if_token ≡ repeat_token = sym (is_this if_token t e) ∙ first_token_is t repeat_token us _ b in cc
if_test t e (inr p) us ps ex b = let no : if_token ≡ Named p.0 = sym (is_this if_token t e) ∙ first_token_is t (Named p.0) us _ b in cc

repeat_test : (t : Token) → same_token repeat_token t ≡ true → (w : Name × Expression) → Fails closed t (an_assignment.parts w)
repeat_test t e w us ps ex b = let no : repeat_token ≡ Named w.0 = sym (is_this repeat_token t e) ∙ first_token_is t (Named w.0) us _ b in cc

block_begins : Begins a_block opening_brace
block_begins t us b ps (line_begun block_line c) = first_token_is t opening_brace us _ c

else_parses : {n : ℕ} (nested : Parser Block) → Parses n a_block (λ b. b) nested → Parses n else_steps else_from (read_else_of nested)
else_parses nested h = optional_parses (begins_not else_token a_block else_steps.goes_on) (led_parses else_token refl (mapped _ h (λ v ts. refl))) (λ ts. refl)

branch_parses : {n : ℕ} (nested : Parser Block) → Parses n a_block (λ b. b) nested → Parses n branch_steps (λ v. statement_from (inl v)) (read_branch_of nested)
branch_parses nested h =
    led_parses if_token refl
    (bind_apart _ (λ x ps ex. apart_first an_expression (both a_block else_steps) opening_brace (λ t us v qs b. block_begins t us v.0 (else_steps.parts v.1 ++ qs) b) refl x ps ex) expressions_parse
    (λ e. bind _ (λ t. refl) h
    (λ a. mapped _ (else_parses nested h) (λ v ts. refl))))

repetition_parses : {n : ℕ} (nested : Parser Block) → Parses n a_block (λ b. b) nested → Parses n repetition_steps (λ v. statement_from (inr (inl v))) (read_repetition_of nested)
repetition_parses nested h =
    led_parses repeat_token refl
    (bind _ (λ t. refl) int_parses
    (λ m. mapped _ h (λ v ts. refl)))

pub statement_parses : {n : ℕ} (nested : Parser Block) → Parses n a_block (λ b. b) nested → Parses n a_statement (λ s. s) (read_statement_of nested)
statement_parses nested h =
    parsed_as statement_writes
    (either_parses (λ t. or_false (is_else t)) (wider_closed is_else) if_test (begins_not if_token (both an_expression (both a_block else_steps)) is_else)
    (branch_parses nested h)
    (either_parses (λ t e. e) (λ t e. e) repeat_test (begins_not repeat_token (both an_int a_block) closed)
    (repetition_parses nested h)
    (mapped _ assignment_parses (λ v ts. refl))))

-- block = "{" {stmt} "}"

abbrev inside : Token → Bool
inside t = not (is_symbol symbols.CloseBrace t)

abbrev some_statements : Form (List Statement)
some_statements = many a_statement inside

abbrev block_steps : Form (List Statement)
block_steps = led opening_brace (ended some_statements closing_brace)

abbrev listed : Block → List Statement
listed body.finished = []
listed (body.step s b) = s ∷ listed b

statements_listed : (b : Block) → statements b ≡ flat_map a_statement.parts (listed b)
statements_listed body.finished = refl
statements_listed (body.step s b) = ap (λ x. statement s ∷ x) (statements_listed b)

statements_in_order : (ss : List Statement) → statements (in_order ss) ≡ flat_map a_statement.parts ss
statements_in_order [] = refl
statements_in_order (s ∷ ss) = ap (λ x. statement s ∷ x) (statements_in_order ss)

in_order_again : (b : Block) → b ≡ in_order (listed b)
in_order_again body.finished = refl
in_order_again (body.step s b) = ap (body.step s) (in_order_again b)

abbrev in_braces : List Part → List Part
in_braces ps = symbol symbols.OpenBrace ∷ ps ++ symbol symbols.CloseBrace ∷ []

block_comes : {b : Block} {line : List Part} → IsWritten (block b) line → (ss : List Statement) × (b ≡ in_order ss) × (line ≡ block_steps.parts ss)
block_comes (block_line {b = b}) = (listed b, in_order_again b, ap in_braces (statements_listed b))

block_writes : Writes block_steps a_block in_order
block_writes = line_writes (λ w. refl) (λ ss. subst (IsWritten (block (in_order ss))) (ap in_braces (statements_in_order ss)) block_line) (λ w line. block_comes) (λ t e. e)

outside : (b : Bool) → not b ≡ false → b ≡ true
outside true e = refl
outside false e = sym e

inside_none : (t : Token) → inside t ≡ false → begins_statement t ≡ false
inside_none t e = ap begins_statement (is_this closing_brace t (outside (same_token closing_brace t) e))

block_parses : {n : ℕ} (nested : Parser Block) → Parses n a_block (λ b. b) nested → Parses (suc n) a_block (λ b. b) (read_block_of nested)
block_parses nested h =
    parsed_as block_writes
    (deeper_parses opening_brace refl
    (ended_parses _ closing_brace refl refl (many_parses statement_repeats inside_none (statement_parses nested h)) (λ v ts. refl)))

bounded_blocks : (n : ℕ) → Parses n a_block (λ b. b) (blocks n)
bounded_blocks zero ts lt = absurd (omega arith)
bounded_blocks (suc n) ts lt = block_parses (blocks n) (bounded_blocks n) ts lt

pub blocks_parse : {n : ℕ} → Parses n a_block (λ b. b) read_block
blocks_parse ts lt = bounded_blocks (suc (length ts)) ts (omega arith)

-- state = NAME ":=" init

abbrev pub a_state : Form (Name × ℤ)
a_state = one state ([], pos 0)

state_comes : {s : Name × ℤ} {line : List Part} → IsWritten (state s) line → (v : Name × ℤ) × (s ≡ v) × (line ≡ (both a_name (led becomes an_initial)).parts v)
state_comes (state_line {s = s}) = (s, refl, refl)

pub state_parses : {n : ℕ} → Parses n a_state (λ s. s) read_state
state_parses =
    parsed_as {F = both a_name (led becomes an_initial)} {h = λ s. s} (line_writes (λ w. refl) (λ v. state_line) (λ w line. state_comes) (λ t e. e))
    (bind _ (λ t. refl) name_parses
    (λ x. led_parses becomes refl
    (mapped _ initial_parses (λ v ts. refl))))

-- task = "task" NAME "(" [NAME {"," NAME}] ")" ["output" NAME {"," NAME}] ["state" state {"," state}] block

abbrev pub task_token : Token
task_token = Word keywords.Task

abbrev pub a_task : Form TaskDeclaration
a_task = one task (record { name = []; inputs = []; outputs = []; states = []; block = body.finished })

abbrev outputs : Form (List Name)
outputs = behind keywords.Output name

abbrev states : Form (List (Name × ℤ))
states = behind keywords.State state

abbrev TaskParts : Type 0
TaskParts = Name × (List Name × (List Name × (List (Name × ℤ) × Block)))

abbrev task_steps : Form TaskParts
task_steps = led task_token (both a_name (both (in_parentheses name) (both outputs (both states a_block))))

abbrev task_from : TaskParts → TaskDeclaration
task_from p = record { name = p.0; inputs = p.1.0; outputs = p.1.1.0; states = p.1.1.1.0; block = p.1.1.1.1 }

abbrev task_line_of : TaskDeclaration → List Part
task_line_of t =
    keyword keywords.Task ∷ name t.name ∷ symbol symbols.OpenParenthesis ∷ separated (map name t.inputs) ++ (symbol symbols.CloseParenthesis
    ∷ list_behind keywords.Output (map name t.outputs) ++ (list_behind keywords.State (map state t.states) ++ block t.block ∷ []))

task_parts : (v : TaskParts) → task_line_of (task_from v) ≡ task_steps.parts v
task_parts v = sym (ap (λ x. keyword keywords.Task ∷ name v.0 ∷ symbol symbols.OpenParenthesis ∷ x) (append_assoc (separated (map name v.1.0)) (symbol symbols.CloseParenthesis ∷ []) _))

task_comes : {t : TaskDeclaration} {line : List Part} → IsWritten (task t) line → (v : TaskParts) × (t ≡ task_from v) × (line ≡ task_steps.parts v)
task_comes (task_line {t = t}) = ((t.name, (t.inputs, (t.outputs, (t.states, t.block)))), refl, task_parts (t.name, (t.inputs, (t.outputs, (t.states, t.block)))))

task_writes : Writes task_steps a_task task_from
task_writes = line_writes (λ w. refl) (λ v. subst (IsWritten (task (task_from v))) (task_parts v) task_line) (λ w line. task_comes) (λ t e. e)

no_name_closed : (us : List Token) (x : Name) (ps : List Part) → ¬ BeginsParts (closing ∷ us) (name x ∷ ps)
no_name_closed us x ps b = let same : closing ≡ Named x = first_token_is closing (Named x) us ps b in cc

states_apart : AreApart states a_block
states_apart = apart_first states a_block opening_brace block_begins refl

outputs_apart : AreApart outputs (both states a_block)
outputs_apart = apart_both outputs states a_block (Word keywords.State) (behind_begins keywords.State state) refl (apart_first outputs a_block opening_brace block_begins refl)

pub task_parses : {n : ℕ} → Parses n a_task (λ d. d) read_task
task_parses =
    parsed_as task_writes
    (led_parses task_token refl
    (bind _ (λ t. refl) name_parses
    (λ x. bind _ (λ t. refl) (parentheses_parse refl refl no_name_closed name_parses)
    (λ ins. bind_apart _ outputs_apart (behind_parses keywords.Output name_parses)
    (λ outs. bind_apart _ states_apart (behind_parses keywords.State state_parses)
    (λ ss. mapped _ blocks_parse (λ v ts. refl)))))))

pub task_begins : Begins a_task task_token
task_begins t us d ps b = let h = task_writes.only d (t ∷ us) ps b in first_token_is t task_token us _ h.1

pub task_repeats : Repeats a_task (is_keyword keywords.Task)
task_repeats = repeats_of a_task task_token task_begins refl refl

-- The grammar lines of modes, and their parsers.
use Rattle.std.proofs.Common.{◌≡◌, ℕ, pos, false, List, [], ◌∷◌, ◌++◌, map, Option, Some, None, refl, sym, ap, ◌∙◌, subst}
use Rattle.std.proofs.lemmas.List.{append_assoc}
use Rattle.giotto_tasks.specs.Syntax as body
use Rattle.giotto_tasks.specs.Syntax.{Expression}
use Rattle.giotto_tasks.specs.declared.names.Name.{Name}
use Rattle.giotto_text.specs.declared.tokens.Keyword.{Keyword}
use Rattle.giotto_text.specs.declared.tokens.Keyword.TheVariants as keywords
use Rattle.giotto_text.specs.declared.tokens.Symbol.TheVariants as symbols
use Rattle.giotto_text.specs.declared.tokens.Token.{Token}
use Rattle.giotto_text.specs.declared.tokens.Token.TheVariants.{Name as Named, Keyword as Word}
use Rattle.giotto_text.specs.Grammar.{Part, IsWritten, name, int, symbol, keyword, expression, mode, update, switch, destination, invocation, separated, written_guard, a_destination as destination_line, an_update as update_line, a_plain_switch, a_switch, an_invocation as invocation_line, a_mode as mode_line}
use Rattle.giotto_text.specs.Parsing.{read_assignment, is_keyword, is_symbol, is_name, read_frequency, read_update, read_destinations, read_switch, read_invocation, read_mode}
use Rattle.giotto_text.specs.Program.{ActuatorUpdate, ModeSwitch, TaskInvocation, ModeDeclaration}
use Rattle.giotto_text.proofs.Forms.{Form, one, led, ended, both, optional, AreApart, Begins, Repeats, Writes, first_token_is, apart_both, apart_ended, line_writes}
use Rattle.giotto_text.proofs.ParserSteps.{Parses, bind, bind_apart, mapped, parsed_as, optional_parses}
use Rattle.giotto_text.proofs.ParserTokens.{a_name, an_int, begins_not, repeats_of, led_parses, ended_parses, name_parses, int_parses}
use Rattle.giotto_text.proofs.ExpressionLines.{a_guard, guard_parses, expressions_parse, no_expression_closed}
use Rattle.giotto_text.proofs.ListLines.{any, any_parses, any_begins, in_parentheses, parentheses_parse}
use Rattle.giotto_text.proofs.DeclarationLines.{semicolon}
use Rattle.giotto_text.proofs.TaskLines.{opening_brace, closing_brace, an_assignment, assignment_parses}

-- a keyword, INT ["if" expr] "do"

abbrev do_token : Token
do_token = Word keywords.Do

abbrev Frequency : Type 0
Frequency = ℕ × Option Expression

abbrev a_frequency : Keyword → Form Frequency
a_frequency k = led (Word k) (both an_int (ended a_guard do_token))

frequency_parses : {n : ℕ} (k : Keyword) → Parses n (a_frequency k) (λ f. f) (read_frequency k)
frequency_parses k =
    led_parses (Word k) refl
    (bind _ (λ t. refl) int_parses
    (λ m. ended_parses _ do_token refl refl guard_parses (λ v ts. refl)))

-- the same, with the parts after it
frequency_parts : (k : Keyword) (n : ℕ) (g : Option Expression) (ps : List Part) → keyword k ∷ int n ∷ written_guard g ++ (keyword keywords.Do ∷ ps) ≡ (a_frequency k).parts (n, g) ++ ps
frequency_parts k n g ps = ap (λ x. keyword k ∷ int n ∷ x) (sym (append_assoc (written_guard g) (keyword keywords.Do ∷ []) ps))

-- act = "actfreq" INT ["if" expr] "do" NAME ":=" expr ";"

abbrev update_token : Token
update_token = Word keywords.ActFreq

abbrev pub an_update : Form ActuatorUpdate
an_update = one update (record { frequency = 0; guard = None; actuator = []; value = body.number (pos 0) })

abbrev UpdateParts : Type 0
UpdateParts = Frequency × (Name × Expression)

abbrev update_steps : Form UpdateParts
update_steps = both (a_frequency keywords.ActFreq) an_assignment

abbrev update_from : UpdateParts → ActuatorUpdate
update_from p = record { frequency = p.0.0; guard = p.0.1; actuator = p.1.0; value = p.1.1 }

update_comes : {u : ActuatorUpdate} {line : List Part} → IsWritten (update u) line → (v : UpdateParts) × (u ≡ update_from v) × (line ≡ update_steps.parts v)
update_comes (update_line {u = u}) = (((u.frequency, u.guard), (u.actuator, u.value)), refl, frequency_parts keywords.ActFreq u.frequency u.guard (an_assignment.parts (u.actuator, u.value)))

update_writes : Writes update_steps an_update update_from
update_writes =
    line_writes (λ w. refl) (λ v. subst (IsWritten (update (update_from v))) (frequency_parts keywords.ActFreq v.0.0 v.0.1 (an_assignment.parts v.1)) update_line) (λ w line. update_comes) (λ t e. e)

pub update_parses : {n : ℕ} → Parses n an_update (λ u. u) read_update
update_parses =
    parsed_as update_writes
    (bind _ (λ t. refl) (frequency_parses keywords.ActFreq)
    (λ f. mapped _ assignment_parses (λ v ts. refl)))

update_begins : Begins an_update update_token
update_begins t us u ps b = let h = update_writes.only u (t ∷ us) ps b in first_token_is t update_token us _ h.1

pub update_repeats : Repeats an_update (is_keyword keywords.ActFreq)
update_repeats = repeats_of an_update update_token update_begins refl refl

-- destination = NAME ":=" expr ";"

abbrev pub some_destination : Form (Name × Expression)
some_destination = one destination ([], body.number (pos 0))

destination_comes : {d : Name × Expression} {line : List Part} → IsWritten (destination d) line → (v : Name × Expression) × (d ≡ v) × (line ≡ an_assignment.parts v)
destination_comes (destination_line {d = d}) = (d, refl, refl)

destination_writes : Writes an_assignment some_destination (λ d. d)
destination_writes = line_writes (λ w. refl) (λ v. destination_line) (λ w line. destination_comes) (λ t e. e)

pub destination_repeats : Repeats some_destination is_name
destination_repeats = record { starts = λ t us d ps b. let h = destination_writes.only d (t ∷ us) ps b in ap is_name (first_token_is t (Named h.0.0) us _ h.1); apart = λ t e. refl; other = refl }

pub destination_parses : {n : ℕ} → Parses n some_destination (λ d. d) read_assignment
destination_parses = parsed_as destination_writes assignment_parses

-- ["{" {destination} "}"]

abbrev some_destinations : Form (List (Name × Expression))
some_destinations = ended (any destination is_name) closing_brace

abbrev destinations : Form (Option (List (Name × Expression)))
destinations = optional (led opening_brace some_destinations) (is_symbol symbols.OpenBrace)

abbrev destinations_from : Option (List (Name × Expression)) → List (Name × Expression)
destinations_from None = []
destinations_from (Some ds) = ds

destinations_parse : {n : ℕ} → Parses n destinations destinations_from read_destinations
destinations_parse =
    optional_parses (begins_not opening_brace some_destinations destinations.goes_on)
    (led_parses opening_brace refl (ended_parses _ closing_brace refl refl (any_parses is_name destination_repeats destination_parses) (λ v ts. refl)))
    (λ ts. refl)

-- exit = "exitfreq" INT ["if" expr] "do" NAME ["{" {destination} "}"] ";"

abbrev switch_token : Token
switch_token = Word keywords.ExitFreq

abbrev pub some_switch : Form ModeSwitch
some_switch = one switch (record { frequency = 0; guard = None; target = []; destinations = [] })

abbrev SwitchParts : Type 0
SwitchParts = Frequency × (Name × Option (List (Name × Expression)))

abbrev switch_end : Form (Name × Option (List (Name × Expression)))
switch_end = both a_name (ended destinations semicolon)

abbrev switch_steps : Form SwitchParts
switch_steps = both (a_frequency keywords.ExitFreq) switch_end

abbrev switch_from : SwitchParts → ModeSwitch
switch_from p = record { frequency = p.0.0; guard = p.0.1; target = p.1.0; destinations = destinations_from p.1.1 }

abbrev from_name : Name → List Part → List Part
from_name x ps = name x ∷ symbol symbols.OpenBrace ∷ ps

destinations_parts : (x : Name) (ds : List (Name × Expression)) → from_name x (map destination ds ++ (symbol symbols.CloseBrace ∷ symbol symbols.Semicolon ∷ [])) ≡ switch_end.parts (x, Some ds)
destinations_parts x ds = ap (from_name x) (sym (append_assoc (map destination ds) (symbol symbols.CloseBrace ∷ []) (symbol symbols.Semicolon ∷ [])))

plain_parts : (f : Frequency) (x : Name)
    → keyword keywords.ExitFreq ∷ int f.0 ∷ written_guard f.1 ++ (keyword keywords.Do ∷ name x ∷ symbol symbols.Semicolon ∷ []) ≡ switch_steps.parts (f, (x, None))
plain_parts f x = frequency_parts keywords.ExitFreq f.0 f.1 (switch_end.parts (x, None))

switch_parts : (f : Frequency) (x : Name) (ds : List (Name × Expression))
    → keyword keywords.ExitFreq ∷ int f.0 ∷ written_guard f.1 ++ (keyword keywords.Do ∷ from_name x (map destination ds ++ (symbol symbols.CloseBrace ∷ symbol symbols.Semicolon ∷ [])))
    ≡ switch_steps.parts (f, (x, Some ds))
switch_parts f x ds =
    ap (λ ps. keyword keywords.ExitFreq ∷ int f.0 ∷ written_guard f.1 ++ (keyword keywords.Do ∷ ps)) (destinations_parts x ds) ∙ frequency_parts keywords.ExitFreq f.0 f.1 (switch_end.parts (x, Some ds))

switch_is : (f : Frequency) (x : Name) (o : Option (List (Name × Expression))) → IsWritten (switch (switch_from (f, (x, o)))) (switch_steps.parts (f, (x, o)))
switch_is f x None = subst (IsWritten (switch (switch_from (f, (x, None))))) (plain_parts f x) (a_plain_switch refl)
switch_is f x (Some ds) = subst (IsWritten (switch (switch_from (f, (x, Some ds))))) (switch_parts f x ds) a_switch

switch_comes : {s : ModeSwitch} {line : List Part} → IsWritten (switch s) line → (v : SwitchParts) × (s ≡ switch_from v) × (line ≡ switch_steps.parts v)
switch_comes (a_plain_switch {s = s} e) =
    (((s.frequency, s.guard), (s.target, None)), ap (λ ds. record { frequency = s.frequency; guard = s.guard; target = s.target; destinations = ds }) e, plain_parts (s.frequency, s.guard) s.target)
switch_comes (a_switch {s = s}) = (((s.frequency, s.guard), (s.target, Some s.destinations)), refl, switch_parts (s.frequency, s.guard) s.target s.destinations)

switch_writes : Writes switch_steps some_switch switch_from
switch_writes = line_writes (λ w. refl) (λ v. switch_is v.0 v.1.0 v.1.1) (λ w line. switch_comes) (λ t e. e)

pub switch_parses : {n : ℕ} → Parses n some_switch (λ s. s) read_switch
switch_parses =
    parsed_as switch_writes
    (bind _ (λ t. refl) (frequency_parses keywords.ExitFreq)
    (λ f. bind _ (λ t. refl) name_parses
    (λ x. ended_parses _ semicolon refl refl destinations_parse (λ v ts. refl))))

switch_begins : Begins some_switch switch_token
switch_begins t us s ps b = let h = switch_writes.only s (t ∷ us) ps b in first_token_is t switch_token us _ h.1

pub switch_repeats : Repeats some_switch (is_keyword keywords.ExitFreq)
switch_repeats = repeats_of some_switch switch_token switch_begins refl refl

-- invoke = "taskfreq" INT ["if" expr] "do" NAME "(" [expr {"," expr}] ")" ";"

abbrev invocation_token : Token
invocation_token = Word keywords.TaskFreq

abbrev pub an_invocation : Form TaskInvocation
an_invocation = one invocation (record { frequency = 0; guard = None; task = []; arguments = [] })

abbrev InvocationParts : Type 0
InvocationParts = Frequency × (Name × List Expression)

abbrev invocation_end : Form (Name × List Expression)
invocation_end = both a_name (ended (in_parentheses expression) semicolon)

abbrev invocation_steps : Form InvocationParts
invocation_steps = both (a_frequency keywords.TaskFreq) invocation_end

abbrev invocation_from : InvocationParts → TaskInvocation
invocation_from p = record { frequency = p.0.0; guard = p.0.1; task = p.1.0; arguments = p.1.1 }

abbrev invocation_line_of : TaskInvocation → List Part
invocation_line_of i =
    keyword keywords.TaskFreq ∷ int i.frequency ∷ written_guard i.guard ++ (keyword keywords.Do ∷ name i.task ∷ symbol symbols.OpenParenthesis
    ∷ separated (map expression i.arguments) ++ symbol symbols.CloseParenthesis ∷ symbol symbols.Semicolon ∷ [])

invocation_parts : (v : InvocationParts) → invocation_line_of (invocation_from v) ≡ invocation_steps.parts v
invocation_parts v =
    ap (λ ps. keyword keywords.TaskFreq ∷ int v.0.0 ∷ written_guard v.0.1 ++ (keyword keywords.Do ∷ name v.1.0 ∷ symbol symbols.OpenParenthesis ∷ ps))
    (sym (append_assoc (separated (map expression v.1.1)) (symbol symbols.CloseParenthesis ∷ []) (symbol symbols.Semicolon ∷ [])))
    ∙ frequency_parts keywords.TaskFreq v.0.0 v.0.1 (invocation_end.parts v.1)

invocation_comes : {i : TaskInvocation} {line : List Part} → IsWritten (invocation i) line → (v : InvocationParts) × (i ≡ invocation_from v) × (line ≡ invocation_steps.parts v)
invocation_comes (invocation_line {i = i}) = (((i.frequency, i.guard), (i.task, i.arguments)), refl, invocation_parts ((i.frequency, i.guard), (i.task, i.arguments)))

invocation_writes : Writes invocation_steps an_invocation invocation_from
invocation_writes = line_writes (λ w. refl) (λ v. subst (IsWritten (invocation (invocation_from v))) (invocation_parts v) invocation_line) (λ w line. invocation_comes) (λ t e. e)

pub invocation_parses : {n : ℕ} → Parses n an_invocation (λ i. i) read_invocation
invocation_parses =
    parsed_as invocation_writes
    (bind _ (λ t. refl) (frequency_parses keywords.TaskFreq)
    (λ f. bind _ (λ t. refl) name_parses
    (λ x. ended_parses _ semicolon refl refl (parentheses_parse refl refl no_expression_closed expressions_parse) (λ v ts. refl))))

invocation_begins : Begins an_invocation invocation_token
invocation_begins t us i ps b = let h = invocation_writes.only i (t ∷ us) ps b in first_token_is t invocation_token us _ h.1

pub invocation_repeats : Repeats an_invocation (is_keyword keywords.TaskFreq)
invocation_repeats = repeats_of an_invocation invocation_token invocation_begins refl refl

-- mode = "mode" NAME "period" INT "{" {act} {exit} {invoke} "}"

abbrev pub mode_token : Token
mode_token = Word keywords.Mode

abbrev pub a_mode : Form ModeDeclaration
a_mode = one mode (record { name = []; period = 0; updates = []; switches = []; invocations = [] })

abbrev updates : Form (List ActuatorUpdate)
updates = any update (is_keyword keywords.ActFreq)

abbrev switches : Form (List ModeSwitch)
switches = any switch (is_keyword keywords.ExitFreq)

abbrev invocations : Form (List TaskInvocation)
invocations = any invocation (is_keyword keywords.TaskFreq)

abbrev ModeParts : Type 0
ModeParts = Name × (ℕ × (List ActuatorUpdate × (List ModeSwitch × List TaskInvocation)))

abbrev mode_steps : Form ModeParts
mode_steps = led mode_token (both a_name (led (Word keywords.Period) (both an_int (led opening_brace (both updates (both switches (ended invocations closing_brace)))))))

abbrev mode_from : ModeParts → ModeDeclaration
mode_from p = record { name = p.0; period = p.1.0; updates = p.1.1.0; switches = p.1.1.1.0; invocations = p.1.1.1.1 }

mode_comes : {m : ModeDeclaration} {line : List Part} → IsWritten (mode m) line → (v : ModeParts) × (m ≡ mode_from v) × (line ≡ mode_steps.parts v)
mode_comes (mode_line {m = m}) = ((m.name, (m.period, (m.updates, (m.switches, m.invocations)))), refl, refl)

mode_writes : Writes mode_steps a_mode mode_from
mode_writes = line_writes (λ w. refl) (λ v. mode_line) (λ w line. mode_comes) (λ t e. e)

before_invocations : {V : Type 0} (F : Form V) → F.goes_on invocation_token ≡ false → F.goes_on closing_brace ≡ false → AreApart F (ended invocations closing_brace)
before_invocations F off end = apart_ended F invocations invocation_token closing_brace (any_begins invocation an_invocation.some (is_keyword keywords.TaskFreq) invocation_token invocation_begins) off end

updates_apart : AreApart updates (both switches (ended invocations closing_brace))
updates_apart =
    apart_both updates switches (ended invocations closing_brace) switch_token (any_begins switch some_switch.some (is_keyword keywords.ExitFreq) switch_token switch_begins) refl
    (before_invocations updates refl refl)

pub mode_parses : {n : ℕ} → Parses n a_mode (λ m. m) read_mode
mode_parses =
    parsed_as mode_writes
    (led_parses mode_token refl
    (bind _ (λ t. refl) name_parses
    (λ x. led_parses (Word keywords.Period) refl
    (bind _ (λ t. refl) int_parses
    (λ m. led_parses opening_brace refl
    (bind_apart _ updates_apart (any_parses (is_keyword keywords.ActFreq) update_repeats update_parses)
    (λ us. bind_apart _ (before_invocations switches refl refl) (any_parses (is_keyword keywords.ExitFreq) switch_repeats switch_parses)
    (λ ss. ended_parses _ closing_brace refl refl (any_parses (is_keyword keywords.TaskFreq) invocation_repeats invocation_parses) (λ v ts. refl)))))))))

pub mode_begins : Begins a_mode mode_token
mode_begins t us m ps b = let h = mode_writes.only m (t ∷ us) ps b in first_token_is t mode_token us _ h.1

pub mode_repeats : Repeats a_mode (is_keyword keywords.Mode)
mode_repeats = repeats_of a_mode mode_token mode_begins refl refl

-- The canonical tokens of parts. Each grammar line has the canonical tokens of its value, except for unnecessary brackets.
use Rattle.std.proofs.Common.{◌≡◌, ℕ, List, [], ◌∷◌, ◌++◌, map, Option, Some, None, refl, ap, sym, ◌∙◌}
use Rattle.std.proofs.lemmas.List.{append_assoc, append-nil}
use Rattle.std.specs.List.{flat_map}
use Rattle.giotto_tasks.specs.Syntax.{Expression, Block, finished, step}
use Rattle.giotto_text.specs.declared.tokens.Keyword.{Keyword}
use Rattle.giotto_text.specs.declared.tokens.Keyword.TheVariants.{Sensor, Actuator, Output, Task, State, Mode, Period, ActFreq, ExitFreq, TaskFreq, Start, Do}
use Rattle.giotto_text.specs.declared.tokens.Symbol.TheVariants.{Becomes, Semicolon, Comma, OpenParenthesis, CloseParenthesis, OpenBrace, CloseBrace}
use Rattle.giotto_text.specs.declared.tokens.Token.{Token}
use Rattle.giotto_text.specs.declared.tokens.Token.TheVariants as tokens
use Rattle.giotto_text.specs.Canonical.{keyword, symbol, initial_tokens, operand_tokens, expression_tokens, with_commas, optional_list, in_braces, statement_tokens, block_tokens, source_tokens, line_tokens, sensor_tokens, actuator_tokens, output_tokens, task_tokens, guard_tokens, at_frequency, given_tokens, update_tokens, switch_tokens, invocation_tokens, mode_tokens, canonical_tokens}
use Rattle.giotto_text.specs.Grammar as grammar
use Rattle.giotto_text.specs.Grammar.{Part, separated, list_behind, written_source, written_line, written_guard, statements}
use Rattle.giotto_text.specs.Program.{Source, from_line, from_grant, SensorDeclaration, ActuatorDeclaration, TaskDeclaration, ActuatorUpdate, ModeSwitch, TaskInvocation, ModeDeclaration, GiottoProgram}

abbrev pub part_tokens : Part → List Token
part_tokens (grammar.token t) = t ∷ []
part_tokens (grammar.program p) = canonical_tokens p
part_tokens (grammar.sensor s) = sensor_tokens s
part_tokens (grammar.actuator a) = actuator_tokens a
part_tokens (grammar.output o) = output_tokens o
part_tokens (grammar.task t) = task_tokens t
part_tokens (grammar.state s) = tokens.Name s.0 ∷ symbol Becomes ∷ initial_tokens s.1
part_tokens (grammar.block b) = in_braces (block_tokens b)
part_tokens (grammar.statement s) = statement_tokens s
part_tokens (grammar.mode m) = mode_tokens m
part_tokens (grammar.update u) = update_tokens u
part_tokens (grammar.switch s) = switch_tokens s
part_tokens (grammar.destination d) = given_tokens d.0 d.1
part_tokens (grammar.invocation i) = invocation_tokens i
part_tokens (grammar.expression e) = expression_tokens e
part_tokens (grammar.operand e) = operand_tokens e (expression_tokens e)
part_tokens (grammar.initial z) = initial_tokens z
part_tokens (grammar.int n) = tokens.Number n ∷ []

abbrev pub tokens_of_parts : List Part → List Token
tokens_of_parts ps = flat_map part_tokens ps

pub tokens-append : (ps qs : List Part) → tokens_of_parts (ps ++ qs) ≡ tokens_of_parts ps ++ tokens_of_parts qs
tokens-append [] qs = refl
tokens-append (p ∷ ps) qs = ap (λ r. part_tokens p ++ r) (tokens-append ps qs) ∙ sym (append_assoc (part_tokens p) (tokens_of_parts ps) (tokens_of_parts qs))

-- The canonical tokens of the parts are these.
pub record Become (ps : List Part) (ts : List Token) : Type 0 where
  pub are : tokens_of_parts ps ≡ ts

abbrev pub each_token : {A : Type 0} → (A → Part) → A → List Token
each_token part x = part_tokens (part x)

none : Become [] []
none = record { are = refl }

t : {k : Token} {ps : List Part} {ts : List Token} → Become ps ts → Become (grammar.token k ∷ ps) (k ∷ ts)
t {k = k} b = record { are = ap (λ r. k ∷ r) b.are }

part : (p : Part) {ps : List Part} {ts : List Token} → Become ps ts → Become (p ∷ ps) (part_tokens p ++ ts)
part p b = record { are = ap (λ r. part_tokens p ++ r) b.are }

-- the same tokens, grouped differently
grouped : {ps : List Part} {ts us : List Token} → Become ps ts → ts ≡ us → Become ps us
grouped b e = record { are = b.are ∙ e }

many_become : {A : Type 0} (f : A → Part) (xs : List A) {ps : List Part} {ts : List Token} → Become ps ts
    → Become (map f xs ++ ps) (flat_map (each_token f) xs ++ ts)
many_become f [] b = b
many_become f (x ∷ xs) {ts = ts} b = grouped (part (f x) (many_become f xs b)) (sym (append_assoc (each_token f x) (flat_map (each_token f) xs) ts))

commas_become : {A : Type 0} (f : A → Part) (xs : List A) {ps : List Part} {ts : List Token} → Become ps ts
    → Become (separated (map f xs) ++ ps) (with_commas (map (each_token f) xs) ++ ts)
commas_become f [] b = b
commas_become f (x ∷ []) b = part (f x) b
commas_become f (x ∷ y ∷ xs) {ts = ts} b =
    grouped (part (f x) (t (commas_become f (y ∷ xs) b)))
    (sym (append_assoc (each_token f x) (symbol Comma ∷ with_commas (map (each_token f) (y ∷ xs))) ts))

list_becomes : {A : Type 0} (k : Keyword) (f : A → Part) (xs : List A) {ps : List Part} {ts : List Token} → Become ps ts
    → Become (list_behind k (map f xs) ++ ps) (optional_list k (map (each_token f) xs) ++ ts)
list_becomes k f [] b = b
list_becomes k f (x ∷ xs) b = t (commas_become f (x ∷ xs) b)

guard_becomes : (guard : Option Expression) {ps : List Part} {ts : List Token} → Become ps ts → Become (written_guard guard ++ ps) (guard_tokens guard ++ ts)
guard_becomes None b = b
guard_becomes (Some c) b = t (part (grammar.expression c) b)

rows_become : (b : Block) {ps : List Part} {ts : List Token} → Become ps ts → Become (statements b ++ ps) (block_tokens b ++ ts)
rows_become finished h = h
rows_become (step s b) {ts = ts} h = grouped (part (grammar.statement s) (rows_become b h)) (sym (append_assoc (statement_tokens s) (block_tokens b) ts))

-- tokens after a frequency, a guard and "do"
at_frequency-behind : (k : Keyword) (w : ℕ) (guard : Option Expression) (ts : List Token)
    → at_frequency k w guard ++ ts ≡ keyword k ∷ tokens.Number w ∷ guard_tokens guard ++ keyword Do ∷ ts
at_frequency-behind k w guard ts = ap (λ r. keyword k ∷ tokens.Number w ∷ r) (append_assoc (guard_tokens guard) (keyword Do ∷ []) ts)

-- The grammar lines that have exactly the tokens of their value.
pub program_becomes : (p : GiottoProgram)
    → Become (map grammar.sensor p.sensors ++ (map grammar.actuator p.actuators ++ (map grammar.output p.outputs ++ (map grammar.task p.tasks ++ (map grammar.mode p.modes
    ++ grammar.keyword Start ∷ grammar.name p.start ∷ grammar.symbol Semicolon ∷ []))))) (canonical_tokens p)
program_becomes p =
    many_become grammar.sensor p.sensors (many_become grammar.actuator p.actuators (many_become grammar.output p.outputs
    (many_become grammar.task p.tasks (many_become grammar.mode p.modes (t (t (t none)))))))

pub sensor_becomes : (s : SensorDeclaration)
    → Become (grammar.keyword Sensor ∷ grammar.name s.name ∷ grammar.symbol Becomes ∷ grammar.initial s.initial ∷ written_source s.source ++ grammar.symbol Semicolon ∷ [])
    (sensor_tokens s)
sensor_becomes s = t (t (t (part (grammar.initial s.initial) (by s.source))))
  where
    by : (source : Source) → Become (written_source source ++ grammar.symbol Semicolon ∷ []) (source_tokens source ++ symbol Semicolon ∷ [])
    by (from_line k) = t (part (grammar.int k) (t none))
    by from_grant = t (t none)

pub actuator_becomes : (a : ActuatorDeclaration)
    → Become (grammar.keyword Actuator ∷ grammar.name a.name ∷ grammar.symbol Becomes ∷ grammar.initial a.initial ∷ written_line a.line ++ grammar.symbol Semicolon ∷ [])
    (actuator_tokens a)
actuator_becomes a = t (t (t (part (grammar.initial a.initial) (by a.line))))
  where
    by : (line : Option ℕ) → Become (written_line line ++ grammar.symbol Semicolon ∷ []) (line_tokens line ++ symbol Semicolon ∷ [])
    by None = t none
    by (Some k) = t (part (grammar.int k) (t none))

pub task_becomes : (d : TaskDeclaration)
    → Become (grammar.keyword Task ∷ grammar.name d.name ∷ grammar.symbol OpenParenthesis ∷ separated (map grammar.name d.inputs) ++ (grammar.symbol CloseParenthesis
    ∷ list_behind Output (map grammar.name d.outputs) ++ (list_behind State (map grammar.state d.states) ++ grammar.block d.block ∷ []))) (task_tokens d)
task_becomes d =
    let body = grouped (part (grammar.block d.block) none) (append-nil (in_braces (block_tokens d.block))) in
    t (t (t (commas_become grammar.name d.inputs (t (list_becomes Output grammar.name d.outputs (list_becomes State grammar.state d.states body))))))

pub block_becomes : (b : Block) → Become (grammar.symbol OpenBrace ∷ statements b ++ grammar.symbol CloseBrace ∷ []) (in_braces (block_tokens b))
block_becomes b = t (rows_become b (t none))

pub mode_becomes : (m : ModeDeclaration)
    → Become (grammar.keyword Mode ∷ grammar.name m.name ∷ grammar.keyword Period ∷ grammar.int m.period ∷ grammar.symbol OpenBrace
    ∷ map grammar.update m.updates ++ (map grammar.switch m.switches ++ (map grammar.invocation m.invocations ++ grammar.symbol CloseBrace ∷ []))) (mode_tokens m)
mode_becomes m =
    let us = flat_map update_tokens m.updates in
    let ss = flat_map switch_tokens m.switches in
    let is = flat_map invocation_tokens m.invocations in
    let end = symbol CloseBrace ∷ [] in
    let within = many_become grammar.update m.updates (many_become grammar.switch m.switches (many_become grammar.invocation m.invocations (t none))) in
    let grouping : us ++ (ss ++ (is ++ end)) ≡ (us ++ (ss ++ is)) ++ end = ap (λ r. us ++ r) (sym (append_assoc ss is end)) ∙ sym (append_assoc us (ss ++ is) end) in
    t (t (t (part (grammar.int m.period) (t (grouped within grouping)))))

pub update_becomes : (u : ActuatorUpdate)
    → Become (grammar.keyword ActFreq ∷ grammar.int u.frequency ∷ written_guard u.guard ++ (grammar.keyword Do ∷ grammar.name u.actuator ∷ grammar.symbol Becomes
    ∷ grammar.expression u.value ∷ grammar.symbol Semicolon ∷ [])) (update_tokens u)
update_becomes u =
    grouped (t (part (grammar.int u.frequency) (guard_becomes u.guard (t (t (t (part (grammar.expression u.value) (t none))))))))
    (sym (at_frequency-behind ActFreq u.frequency u.guard (given_tokens u.actuator u.value)))

-- the tokens of a switch, with these between its target and ";"
abbrev pub switch_with : ModeSwitch → List Token → List Token
switch_with s ts = at_frequency ExitFreq s.frequency s.guard ++ tokens.Name s.target ∷ ts ++ symbol Semicolon ∷ []

switch_becomes : (s : ModeSwitch) (ts : List Token) {ps : List Part} → Become ps (ts ++ symbol Semicolon ∷ [])
    → Become (grammar.keyword ExitFreq ∷ grammar.int s.frequency ∷ written_guard s.guard ++ (grammar.keyword Do ∷ grammar.name s.target ∷ ps)) (switch_with s ts)
switch_becomes s ts b =
    let front = at_frequency ExitFreq s.frequency s.guard in
    let end = symbol Semicolon ∷ [] in
    grouped (t (part (grammar.int s.frequency) (guard_becomes s.guard (t (t b)))))
    (sym (append_assoc front (tokens.Name s.target ∷ ts) end ∙ at_frequency-behind ExitFreq s.frequency s.guard (tokens.Name s.target ∷ ts ++ end)))

pub plain_switch_becomes : (s : ModeSwitch)
    → Become (grammar.keyword ExitFreq ∷ grammar.int s.frequency ∷ written_guard s.guard ++ (grammar.keyword Do ∷ grammar.name s.target ∷ grammar.symbol Semicolon ∷ []))
    (switch_with s [])
plain_switch_becomes s = switch_becomes s [] (t none)

-- with braces, even if there is no destination
pub braced_switch_becomes : (s : ModeSwitch)
    → Become (grammar.keyword ExitFreq ∷ grammar.int s.frequency ∷ written_guard s.guard ++ (grammar.keyword Do ∷ grammar.name s.target ∷ grammar.symbol OpenBrace
    ∷ map grammar.destination s.destinations ++ (grammar.symbol CloseBrace ∷ grammar.symbol Semicolon ∷ [])))
    (switch_with s (in_braces (flat_map (λ d. given_tokens d.0 d.1) s.destinations)))
braced_switch_becomes s =
    let ds = flat_map (λ d. given_tokens d.0 d.1) s.destinations in
    let grouping = sym (append_assoc ds (symbol CloseBrace ∷ []) (symbol Semicolon ∷ [])) in
    switch_becomes s (in_braces ds) (t (grouped (many_become grammar.destination s.destinations (t (t none))) grouping))

pub invocation_becomes : (i : TaskInvocation)
    → Become (grammar.keyword TaskFreq ∷ grammar.int i.frequency ∷ written_guard i.guard ++ (grammar.keyword Do ∷ grammar.name i.task ∷ grammar.symbol OpenParenthesis
    ∷ separated (map grammar.expression i.arguments) ++ grammar.symbol CloseParenthesis ∷ grammar.symbol Semicolon ∷ [])) (invocation_tokens i)
invocation_becomes i =
    let front = at_frequency TaskFreq i.frequency i.guard in
    let call = tokens.Name i.task ∷ symbol OpenParenthesis ∷ with_commas (map expression_tokens i.arguments) in
    let end = symbol CloseParenthesis ∷ symbol Semicolon ∷ [] in
    grouped (t (part (grammar.int i.frequency) (guard_becomes i.guard (t (t (t (commas_become grammar.expression i.arguments (t (t none)))))))))
    (sym (append_assoc front call end ∙ at_frequency-behind TaskFreq i.frequency i.guard (call ++ end)))

-- If any tokens spell a program, its canonical tokens spell it too.
use Rattle.std.proofs.Common.{◌≡◌, ℕ, zero, suc, ◌^◌, ◌≤◌, pos, neg_ℤ, List, [], ◌∷◌, ◌++◌, map, Option, Some, None, refl, sym, ap, ◌∙◌, subst, lit<}
use Rattle.std.proofs.lemmas.List.{append-nil, append_assoc}
use Rattle.std.proofs.lemmas.List.Folds.{flat_map-map}
use Rattle.std.proofs.lemmas.Grind.{flat_map-append}
use Rattle.std.specs.List.{AllByRecursion, flat_map}
use Rattle.giotto_tasks.specs.declared.names.Name.{Name}
use Rattle.giotto_tasks.proofs.cited.ListLemmas.{all_append}
use Rattle.giotto_tasks.specs.Syntax as body
use Rattle.giotto_tasks.specs.Syntax.{Expression, Block}
use Rattle.giotto_text.specs.declared.tokens.Keyword.{Keyword}
use Rattle.giotto_text.specs.declared.tokens.Keyword.TheVariants.{Mode, Period, ActFreq, ExitFreq, TaskFreq, Do, If}
use Rattle.giotto_text.specs.declared.tokens.Token.{Token}
use Rattle.giotto_text.specs.declared.tokens.Token.TheVariants as tokens
use Rattle.giotto_text.specs.Canonical.{initial_tokens, operand_tokens, expression_tokens, argument_tokens, with_commas, optional_list, in_braces, statement_tokens, block_tokens, source_tokens, line_tokens, sensor_tokens, actuator_tokens, output_tokens, task_tokens, guard_tokens, at_frequency, given_tokens, update_tokens, switch_tokens, invocation_tokens, mode_tokens, canonical_tokens, symbol as mark}
use Rattle.giotto_text.specs.Grammar.{Part, token, program, sensor, actuator, output, task, state, block, statement, mode, update, switch, destination, invocation, expression, operand, initial, int, keyword, name, symbol, separated, list_behind, written_source, written_line, written_guard, statements, IsWritten, a_program, a_sensor, an_actuator, an_output, a_task, a_state, a_block, an_assignment, a_branch, two_branches, a_repetition, a_mode, an_update, a_plain_switch, a_switch, a_destination, an_invocation, an_operand, a_unary, a_binary, a_number, a_port, in_parentheses, a_plain_initial, a_negative_initial, an_int}
use Rattle.giotto_text.specs.declared.tokens.Symbol.TheVariants.{Becomes, Semicolon, OpenParenthesis, CloseParenthesis, OpenBrace, CloseBrace}
use Rattle.giotto_text.specs.Program.{Source, from_line, from_grant, ModeSwitch, TaskInvocation, ModeDeclaration, GiottoProgram}
use Rattle.giotto_text.specs.Spelling.{SpellsParts, all_spelled, token_spelled, line_spelled, Spells}

-- the canonical tokens of each part
abbrev tokens_of : Part → List Token
tokens_of (token t) = t ∷ []
tokens_of (program p) = canonical_tokens p
tokens_of (sensor s) = sensor_tokens s
tokens_of (actuator a) = actuator_tokens a
tokens_of (output o) = output_tokens o
tokens_of (task t) = task_tokens t
tokens_of (state s) = tokens.Name s.0 ∷ mark Becomes ∷ initial_tokens s.1
tokens_of (block b) = in_braces (block_tokens b)
tokens_of (statement s) = statement_tokens s
tokens_of (mode m) = mode_tokens m
tokens_of (update u) = update_tokens u
tokens_of (switch s) = switch_tokens s
tokens_of (destination d) = given_tokens d.0 d.1
tokens_of (invocation i) = invocation_tokens i
tokens_of (expression e) = expression_tokens e
tokens_of (operand e) = operand_tokens e (expression_tokens e)
tokens_of (initial z) = initial_tokens z
tokens_of (int n) = tokens.Number n ∷ []

-- an expression as an operand, and an operand as an expression: they differ in parentheses
abbrev turned : Part → Part
turned (expression e) = operand e
turned (operand e) = expression e
turned p = p

-- the canonical tokens spell the part, and those of its other form spell that form
record IsCanonical (p : Part) : Type 0 where
  spelled : SpellsParts (tokens_of p) (p ∷ [])
  other : SpellsParts (tokens_of (turned p)) (turned p ∷ [])

abbrev AllCanonical : List Part → Type 0
AllCanonical ps = AllByRecursion IsCanonical ps

of_token : (t : Token) → IsCanonical (token t)
of_token t = record { spelled = token_spelled all_spelled; other = token_spelled all_spelled }

plain : {p : Part} → turned p ≡ p → SpellsParts (tokens_of p) (p ∷ []) → IsCanonical p
plain same s = record { spelled = s; other = rw same s }

-- the parts of two concatenated lists
apart : (ps qs : List Part) → AllCanonical (ps ++ qs) → AllCanonical ps × AllCanonical qs
apart [] qs all = (tt, all)
apart (p ∷ ps) qs all = let h = apart ps qs all.1 in ((all.0, h.0), h.1)

-- two token lists, one after the other
pub spelled_append : {ts us : List Token} {ps qs : List Part} → SpellsParts ts ps → SpellsParts us qs → SpellsParts (ts ++ us) (ps ++ qs)
spelled_append all_spelled s = s
spelled_append (token_spelled r) s = token_spelled (spelled_append r s)
spelled_append {qs = qs} (line_spelled {ps = ps} {line = line} w r) s = line_spelled w (rw (← append_assoc line ps qs) (spelled_append r s))

together : (ps : List Part) → AllCanonical ps → SpellsParts (flat_map tokens_of ps) ps
together [] all = all_spelled
together (p ∷ ps) all = spelled_append all.0.spelled (together ps all.1)

-- a whole grammar line
written : {p : Part} {line : List Part} {ts : List Token} → IsWritten p line → flat_map tokens_of line ≡ ts → AllCanonical line → SpellsParts ts (p ∷ [])
written {line = line} w same all = line_spelled w (rw (append-nil line) (subst (λ us. SpellsParts us line) same (together line all)))

-- the canonical tokens of lists of parts

listed : {A : Type 0} (part : A → Part) (xs : List A) → flat_map tokens_of (separated (map part xs)) ≡ with_commas (map (λ x. tokens_of (part x)) xs)
listed part [] = refl
listed part (x ∷ []) = append-nil (tokens_of (part x))
listed part (x ∷ y ∷ xs) = rw (listed part (y ∷ xs)) refl

listed_behind : {A : Type 0} (k : Keyword) (part : A → Part) (xs : List A)
    → flat_map tokens_of (list_behind k (map part xs)) ≡ optional_list k (map (λ x. tokens_of (part x)) xs)
listed_behind k part [] = refl
listed_behind k part (x ∷ xs) = rw (listed part (x ∷ xs)) refl

in_block : (b : Block) → flat_map tokens_of (statements b) ≡ block_tokens b
in_block body.finished = refl
in_block (body.step s b) = rw (in_block b) refl

of_source : (s : Source) → flat_map tokens_of (written_source s) ≡ source_tokens s
of_source (from_line k) = refl
of_source from_grant = refl

of_line : (l : Option ℕ) → flat_map tokens_of (written_line l) ≡ line_tokens l
of_line None = refl
of_line (Some k) = refl

of_guard : (g : Option Expression) → flat_map tokens_of (written_guard g) ≡ guard_tokens g
of_guard None = refl
of_guard (Some e) = simp append-nil

-- INT ["if" expr] "do" and more
of_frequency : (k : Keyword) (w : ℕ) (g : Option Expression) (more : List Part)
    → flat_map tokens_of ((keyword k ∷ int w ∷ written_guard g) ++ (keyword Do ∷ more)) ≡ at_frequency k w g ++ flat_map tokens_of more
of_frequency k w None more = refl
of_frequency k w (Some e) more =
    ap (λ l. tokens.Keyword k ∷ tokens.Number w ∷ tokens.Keyword If ∷ l) (sym (append_assoc (expression_tokens e) (tokens.Keyword Do ∷ []) (flat_map tokens_of more)))

plain_switch_tokens : (s : ModeSwitch) → s.destinations ≡ []
    → flat_map tokens_of ((keyword ExitFreq ∷ int s.frequency ∷ written_guard s.guard) ++ (keyword Do ∷ name s.target ∷ symbol Semicolon ∷ [])) ≡ switch_tokens s
plain_switch_tokens s is =
    rw is (of_frequency ExitFreq s.frequency s.guard (name s.target ∷ symbol Semicolon ∷ [])
    ∙ sym (append_assoc (at_frequency ExitFreq s.frequency s.guard) (tokens.Name s.target ∷ []) (mark Semicolon ∷ [])))

some_switch_tokens : (s : ModeSwitch) (d : Name × Expression) (ds : List (Name × Expression)) → s.destinations ≡ d ∷ ds
    → flat_map tokens_of ((keyword ExitFreq ∷ int s.frequency ∷ written_guard s.guard)
    ++ ((keyword Do ∷ name s.target ∷ symbol OpenBrace ∷ map destination s.destinations) ++ (symbol CloseBrace ∷ symbol Semicolon ∷ []))) ≡ switch_tokens s
some_switch_tokens s d ds is =
    let given : List Token = flat_map (λ d. given_tokens d.0 d.1) (d ∷ ds) in
    let front : List Token = at_frequency ExitFreq s.frequency s.guard in
    let written_end : List Part = symbol CloseBrace ∷ symbol Semicolon ∷ [] in
    let end : List Token = mark CloseBrace ∷ mark Semicolon ∷ [] in
    rw is (of_frequency ExitFreq s.frequency s.guard ((name s.target ∷ symbol OpenBrace ∷ map destination (d ∷ ds)) ++ written_end)
    ∙ ap (λ l. front ++ (tokens.Name s.target ∷ mark OpenBrace ∷ l))
    (flat_map-append tokens_of (map destination (d ∷ ds)) written_end ∙ ap (λ l. l ++ end) (flat_map-map tokens_of destination (d ∷ ds))
    ∙ sym (append_assoc given (mark CloseBrace ∷ []) (mark Semicolon ∷ [])))
    ∙ sym (append_assoc front (tokens.Name s.target ∷ in_braces given) (mark Semicolon ∷ [])))

-- "{" "}" may be left out if there are no destinations
of_switch : (s : ModeSwitch) (ds : List (Name × Expression)) → s.destinations ≡ ds
    → AllCanonical ((keyword ExitFreq ∷ int s.frequency ∷ written_guard s.guard)
    ++ ((keyword Do ∷ name s.target ∷ symbol OpenBrace ∷ map destination s.destinations) ++ (symbol CloseBrace ∷ symbol Semicolon ∷ [])))
    → SpellsParts (switch_tokens s) (switch s ∷ [])
of_switch s [] is all =
    let front : List Part = keyword ExitFreq ∷ int s.frequency ∷ written_guard s.guard in
    let h = apart front ((keyword Do ∷ name s.target ∷ symbol OpenBrace ∷ map destination s.destinations) ++ (symbol CloseBrace ∷ symbol Semicolon ∷ [])) all in
    written (a_plain_switch is) (plain_switch_tokens s is)
    (all_append IsCanonical front (keyword Do ∷ name s.target ∷ symbol Semicolon ∷ []) h.0 (h.1.0, (h.1.1.0, (of_token (tokens.Symbol Semicolon), tt))))
of_switch s (d ∷ ds) is all = written a_switch (some_switch_tokens s d ds is) all

of_invocation : (i : TaskInvocation) → flat_map tokens_of ((keyword TaskFreq ∷ int i.frequency ∷ written_guard i.guard)
    ++ ((keyword Do ∷ name i.task ∷ symbol OpenParenthesis ∷ separated (map expression i.arguments)) ++ (symbol CloseParenthesis ∷ symbol Semicolon ∷ []))) ≡ invocation_tokens i
of_invocation i =
    let arguments : List Part = separated (map expression i.arguments) in
    let front : List Token = at_frequency TaskFreq i.frequency i.guard in
    let written_end : List Part = symbol CloseParenthesis ∷ symbol Semicolon ∷ [] in
    let end : List Token = mark CloseParenthesis ∷ mark Semicolon ∷ [] in
    of_frequency TaskFreq i.frequency i.guard ((name i.task ∷ symbol OpenParenthesis ∷ arguments) ++ written_end)
    ∙ ap (λ l. front ++ (tokens.Name i.task ∷ mark OpenParenthesis ∷ l)) (flat_map-append tokens_of arguments written_end ∙ ap (λ l. l ++ end) (listed expression i.arguments))
    ∙ sym (append_assoc front (tokens.Name i.task ∷ mark OpenParenthesis ∷ argument_tokens i.arguments) end)

of_mode : (m : ModeDeclaration) → flat_map tokens_of ((keyword Mode ∷ name m.name ∷ keyword Period ∷ int m.period ∷ symbol OpenBrace ∷ map update m.updates)
    ++ (map switch m.switches ++ (map invocation m.invocations ++ symbol CloseBrace ∷ []))) ≡ mode_tokens m
of_mode m =
    let updates : List Token = flat_map update_tokens m.updates in
    let switches : List Token = flat_map switch_tokens m.switches in
    let invocations : List Token = flat_map invocation_tokens m.invocations in
    let end : List Token = mark CloseBrace ∷ [] in
    simp (flat_map-append, flat_map-map) (ap (λ l. tokens.Keyword Mode ∷ tokens.Name m.name ∷ tokens.Keyword Period ∷ tokens.Number m.period ∷ mark OpenBrace ∷ l)
    (sym (append_assoc updates (switches ++ invocations) end ∙ ap (λ l. updates ++ l) (append_assoc switches invocations end))))

-- "-" may be left out before 0
of_negative : (n : ℕ) → n ≤ 2 ^ 63 → SpellsParts (initial_tokens (neg_ℤ (pos n))) (initial (neg_ℤ (pos n)) ∷ [])
of_negative zero le = line_spelled a_plain_initial (line_spelled (an_int (lit< tt)) (token_spelled all_spelled))
of_negative (suc n) le = line_spelled (a_negative_initial le refl) (token_spelled (token_spelled all_spelled))

-- an operation: as an operand it is put in parentheses
of_operation : (e : Expression) (ts : List Token) → SpellsParts ts (expression e ∷ []) → SpellsParts (mark OpenParenthesis ∷ ts ++ mark CloseParenthesis ∷ []) (operand e ∷ [])
of_operation e ts s = line_spelled in_parentheses (token_spelled (spelled_append s (token_spelled all_spelled)))

-- a number or a port: as an expression it is the same operand
of_leaf : (e : Expression) (ts : List Token) → SpellsParts ts (operand e ∷ []) → SpellsParts ts (expression e ∷ [])
of_leaf e ts s = line_spelled an_operand s

-- each grammar line

canonical_line : {p : Part} {line : List Part} → IsWritten p line → AllCanonical line → IsCanonical p
canonical_line (a_program {p = p}) all = plain refl (written a_program (simp (flat_map-append, flat_map-map)) all)
canonical_line (a_sensor {s = s}) all = plain refl (written a_sensor (simp (flat_map-append, of_source, append_assoc)) all)
canonical_line (an_actuator {a = a}) all = plain refl (written an_actuator (simp (flat_map-append, of_line, append_assoc)) all)
canonical_line an_output all = plain refl (written an_output refl all)
canonical_line a_task all = plain refl (written a_task (simp (flat_map-append, listed, listed_behind, append-nil)) all)
canonical_line a_state all = plain refl (written a_state (simp append-nil) all)
canonical_line (a_block {b = b}) all = plain refl (written a_block (simp (flat_map-append, in_block)) all)
canonical_line an_assignment all = plain refl (written an_assignment refl all)
canonical_line a_branch all = plain refl (written a_branch refl all)
canonical_line (two_branches {c = body.finished}) all = plain refl (written a_branch refl (all.0, (all.1.0, (all.1.1.0, tt))))
canonical_line (two_branches {c = body.step s c}) all = plain refl (written two_branches (simp append-nil) all)
canonical_line (a_repetition {b = b}) all = plain refl (written a_repetition (simp append-nil) all)
canonical_line (a_mode {m = m}) all = plain refl (written a_mode (of_mode m) all)
canonical_line (an_update {u = u}) all = plain refl (written an_update (of_frequency ActFreq u.frequency u.guard (name u.actuator ∷ symbol Becomes ∷ expression u.value ∷ symbol Semicolon ∷ [])) all)
canonical_line (a_plain_switch {s = s} is) all = plain refl (written (a_plain_switch is) (plain_switch_tokens s is) all)
canonical_line (a_switch {s = s}) all = plain refl (of_switch s s.destinations refl all)
canonical_line a_destination all = plain refl (written a_destination refl all)
canonical_line (an_invocation {i = i}) all = plain refl (written an_invocation (of_invocation i) all)
canonical_line an_operand all = record { spelled = all.0.other; other = all.0.spelled }
canonical_line (a_unary {o = o} {a = a}) all =
    let s = written a_unary (simp append-nil) all in
    record { spelled = s; other = of_operation (body.unary o a) (expression_tokens (body.unary o a)) s }
canonical_line (a_binary {o = o} {a = a} {b = b}) all =
    let s = written a_binary (simp append-nil) all in
    record { spelled = s; other = of_operation (body.binary o a b) (expression_tokens (body.binary o a b)) s }
canonical_line (a_number {n = n}) all =
    let s = written a_number refl all in
    record { spelled = s; other = of_leaf (body.number (pos n)) (tokens.Number n ∷ []) s }
canonical_line (a_port {x = x}) all =
    let s = written a_port refl all in
    record { spelled = s; other = of_leaf (body.port x) (tokens.Name x ∷ []) s }
canonical_line in_parentheses all = record { spelled = all.1.0.other; other = all.1.0.spelled }
canonical_line a_plain_initial all = plain refl (written a_plain_initial refl all)
canonical_line (a_negative_initial {n = n} le is) all = plain refl (rw is (of_negative n le))
canonical_line (an_int small) all = plain refl (written (an_int small) refl all)

canonical_parts : {ts : List Token} {ps : List Part} → SpellsParts ts ps → AllCanonical ps
canonical_parts all_spelled = tt
canonical_parts (token_spelled {t = t} s) = (of_token t, canonical_parts s)
canonical_parts (line_spelled {ps = ps} {line = line} w s) = let all = apart line ps (canonical_parts s) in (canonical_line w all.0, all.1)

pub canonical_spells : (ts : List Token) (p : GiottoProgram) → Spells ts p → Spells (canonical_tokens p) p
canonical_spells ts p s = (canonical_parts s).0.spelled

-- If sound tokens spell a program, its canonical tokens are sound too; they don't nest too deep if those tokens don't.
use Rattle.std.proofs.Common.{◌≡◌, ℕ, zero, suc, pos, neg_ℤ, true, false, List, [], ◌∷◌, ◌++◌, refl, ap, sym, ◌∙◌, subst}
use Rattle.std.proofs.lemmas.List.{append-nil}
use Rattle.std.specs.List.{flat_map, list_all}
use Rattle.giotto_tasks.specs.declared.names.Name.{Name}
use Rattle.giotto_tasks.specs.Syntax.{Expression, number, port, unary, binary, Block, finished, step}
use Rattle.giotto_text.specs.declared.tokens.Keyword.TheVariants.{ExitFreq, If, Else, Repeat}
use Rattle.giotto_text.specs.declared.tokens.Symbol.TheVariants.{Becomes, Semicolon, OpenParenthesis, CloseParenthesis, Minus}
use Rattle.giotto_text.specs.declared.tokens.Token.{Token}
use Rattle.giotto_text.specs.declared.tokens.Token.TheVariants as tokens
use Rattle.giotto_text.specs.Canonical.{keyword, symbol, initial_tokens, operand_tokens, expression_tokens, in_braces, else_tokens, block_tokens, at_frequency, given_tokens, destination_tokens, canonical_tokens}
use Rattle.giotto_text.specs.Grammar.{Part, IsWritten, symbol_of_unary, symbol_of_binary, a_program, a_sensor, an_actuator, an_output, a_task, a_state, a_block, an_assignment, a_branch, two_branches, a_repetition, a_mode, an_update, a_plain_switch, a_switch, a_destination, an_invocation, an_operand, a_unary, a_binary, a_number, a_port, in_parentheses, a_plain_initial, a_negative_initial, an_int}
use Rattle.giotto_text.specs.Nesting.{nests_too_deep}
use Rattle.giotto_text.specs.Program.{ModeSwitch, GiottoProgram}
use Rattle.giotto_text.specs.Sound.{is_sound_token}
use Rattle.giotto_text.specs.Spelling.{SpellsParts, all_spelled, token_spelled, line_spelled, Spells}
use Rattle.giotto_text.proofs.cited.CanonicalNesting.{Keeps, keeps_same, keeps_through, keeps_token, keeps_behind, keeps_before, balanced_expression, parentheses_dropped, braces_dropped, token_dropped}
use Rattle.giotto_text.proofs.PartTokens.{part_tokens, tokens_of_parts, tokens-append, program_becomes, sensor_becomes, actuator_becomes, task_becomes, block_becomes, mode_becomes, update_becomes, switch_with, plain_switch_becomes, braced_switch_becomes, invocation_becomes}

operand_keeps : (e : Expression) → Keeps (operand_tokens e (expression_tokens e)) (expression_tokens e)
operand_keeps (number z) = keeps_same refl
operand_keeps (port x) = keeps_same refl
operand_keeps (unary o e) = parentheses_dropped (expression_tokens (unary o e)) (balanced_expression (unary o e))
operand_keeps (binary o a b) = parentheses_dropped (expression_tokens (binary o a b)) (balanced_expression (binary o a b))

bracketed_keeps : (e : Expression) → Keeps (symbol OpenParenthesis ∷ expression_tokens e ++ symbol CloseParenthesis ∷ []) (operand_tokens e (expression_tokens e))
bracketed_keeps (number z) = parentheses_dropped (expression_tokens (number z)) (balanced_expression (number z))
bracketed_keeps (port x) = parentheses_dropped (expression_tokens (port x)) (balanced_expression (port x))
bracketed_keeps (unary o e) = keeps_same refl
bracketed_keeps (binary o a b) = keeps_same refl

else_keeps : (b : Block) → Keeps (keyword Else ∷ in_braces (block_tokens b) ++ []) (else_tokens b (block_tokens b))
else_keeps finished = keeps_through (keeps_token (keyword Else) braces_dropped) (token_dropped (keyword Else) (λ n. refl))
else_keeps (step s b) = keeps_same (ap (λ r. keyword Else ∷ r) (append-nil (in_braces (block_tokens (step s b)))))

destinations_keep : (s : ModeSwitch) (ds : List (Name × Expression))
    → Keeps (switch_with s (in_braces (flat_map (λ d. given_tokens d.0 d.1) ds))) (switch_with s (destination_tokens ds))
destinations_keep s [] =
    keeps_before (symbol Semicolon ∷ []) (keeps_behind (at_frequency ExitFreq s.frequency s.guard) (keeps_token (tokens.Name s.target) braces_dropped))
destinations_keep s (d ∷ ds) = keeps_same refl

negated_keeps : (n : ℕ) → Keeps (symbol Minus ∷ tokens.Number n ∷ []) (initial_tokens (neg_ℤ (pos n)))
negated_keeps zero = keeps_before (tokens.Number 0 ∷ []) (token_dropped (symbol Minus) (λ n. refl))
negated_keeps (suc n) = keeps_same refl

line_keeps : {p : Part} {line : List Part} → IsWritten p line → Keeps (tokens_of_parts line) (part_tokens p)
line_keeps (a_program {p = p}) = keeps_same (program_becomes p).are
line_keeps (a_sensor {s = s}) = keeps_same (sensor_becomes s).are
line_keeps (an_actuator {a = a}) = keeps_same (actuator_becomes a).are
line_keeps an_output = keeps_same refl
line_keeps (a_task {t = t}) = keeps_same (task_becomes t).are
line_keeps (a_state {s = s}) = keeps_same (ap (λ r. tokens.Name s.0 ∷ symbol Becomes ∷ r) (append-nil (initial_tokens s.1)))
line_keeps (a_block {b = b}) = keeps_same (block_becomes b).are
line_keeps an_assignment = keeps_same refl
line_keeps a_branch = keeps_same refl
line_keeps (two_branches {e = e} {b = b} {c = c}) = keeps_behind (keyword If ∷ expression_tokens e) (keeps_behind (in_braces (block_tokens b)) (else_keeps c))
line_keeps (a_repetition {n = n} {b = b}) = keeps_same (ap (λ r. keyword Repeat ∷ tokens.Number n ∷ r) (append-nil (in_braces (block_tokens b))))
line_keeps (a_mode {m = m}) = keeps_same (mode_becomes m).are
line_keeps (an_update {u = u}) = keeps_same (update_becomes u).are
line_keeps (a_plain_switch {s = s} is) = keeps_same ((plain_switch_becomes s).are ∙ ap (λ ds. switch_with s (destination_tokens ds)) (sym is))
line_keeps (a_switch {s = s}) = keeps_through (keeps_same (braced_switch_becomes s).are) (destinations_keep s s.destinations)
line_keeps a_destination = keeps_same refl
line_keeps (an_invocation {i = i}) = keeps_same (invocation_becomes i).are
line_keeps (an_operand {e = e}) = keeps_through (keeps_same (append-nil (operand_tokens e (expression_tokens e)))) (operand_keeps e)
line_keeps (a_unary {o = o} {a = a}) = keeps_same (ap (λ r. symbol (symbol_of_unary o) ∷ r) (append-nil (operand_tokens a (expression_tokens a))))
line_keeps (a_binary {o = o} {a = a} {b = b}) =
    keeps_same (ap (λ r. operand_tokens a (expression_tokens a) ++ symbol (symbol_of_binary o) ∷ r) (append-nil (operand_tokens b (expression_tokens b))))
line_keeps a_number = keeps_same refl
line_keeps a_port = keeps_same refl
line_keeps (in_parentheses {e = e}) = bracketed_keeps e
line_keeps a_plain_initial = keeps_same refl
line_keeps (a_negative_initial {n = n} le is) = subst (λ z. Keeps (symbol Minus ∷ tokens.Number n ∷ []) (initial_tokens z)) (sym is) (negated_keeps n)
line_keeps (an_int small) = keeps_same refl

pub spelled_keeps : {ts : List Token} {ps : List Part} → SpellsParts ts ps → Keeps ts (tokens_of_parts ps)
spelled_keeps all_spelled = keeps_same refl
spelled_keeps (token_spelled {t = t} s) = keeps_token t (spelled_keeps s)
spelled_keeps (line_spelled {ps = ps} {line = line} w s) =
    keeps_through (keeps_through (spelled_keeps s) (keeps_same (tokens-append line ps))) (keeps_before (tokens_of_parts ps) (line_keeps w))

program_keeps : (ts : List Token) (p : GiottoProgram) → Spells ts p → Keeps ts (canonical_tokens p)
program_keeps ts p s = keeps_through (spelled_keeps s) (keeps_same (append-nil (canonical_tokens p)))

pub canonical_sound : (ts : List Token) (p : GiottoProgram) → list_all is_sound_token ts ≡ true → Spells ts p → list_all is_sound_token (canonical_tokens p) ≡ true
canonical_sound ts p sound s =
    let h = (program_keeps ts p s).sound [] (ap (list_all is_sound_token) (append-nil ts) ∙ sound) in
    ap (list_all is_sound_token) (sym (append-nil (canonical_tokens p))) ∙ h

pub canonical_shallow : (ts : List Token) (p : GiottoProgram) → nests_too_deep ts ≡ false → Spells ts p → nests_too_deep (canonical_tokens p) ≡ false
canonical_shallow ts p shallow s =
    let h = (program_keeps ts p s).shallow 0 [] (ap nests_too_deep (append-nil ts) ∙ shallow) in
    ap nests_too_deep (sym (append-nil (canonical_tokens p))) ∙ h

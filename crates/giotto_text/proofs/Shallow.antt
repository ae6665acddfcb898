-- If the canonical tokens of expressions don't nest too deep, the expressions aren't too deep either: an operand that is an
-- operation is in parentheses, and each expression is in braces.
use Rattle.std.specs.Prelude.{nat_le}
use Rattle.std.proofs.Common.{◌≡◌, ℕ, suc, ◌+◌, ◌-◌, ◌≤◌, Bool, true, false, ◌&&◌, List, [], ◌∷◌, ◌++◌, length, map, ℤ, Option, Some, None, refl, ap, sym, ◌∙◌, subst, append_assoc, arith}
use Rattle.std.proofs.Math.Nat.{max-le}
use Rattle.std.proofs.lemmas.Bool.{and_from, or_parts, le-leb}
use Rattle.std.proofs.lemmas.Bool.Decides.{nat_tests}
use Rattle.std.proofs.lemmas.List.{append-nil, map-append}
use Rattle.std.specs.List.{flat_map, list_all}
use Rattle.giotto_tasks.specs.declared.names.Name.{Name}
use Rattle.giotto_tasks.specs.Depth.{depth_of, depth_of_statement, depth_of_block}
use Rattle.giotto_tasks.specs.Syntax.{Expression, number, port, unary, binary, Statement, assign, branch, repeat, Block, finished, step}
use Rattle.giotto_text.specs.declared.tokens.Keyword.{Keyword}
use Rattle.giotto_text.specs.declared.tokens.Keyword.TheVariants.{Output, Task, State, Mode, Period, ActFreq, ExitFreq, TaskFreq, If, Else, Repeat, Do, Start}
use Rattle.giotto_text.specs.declared.tokens.Symbol.TheVariants.{Becomes, Semicolon, Comma, OpenParenthesis, CloseParenthesis, OpenBrace, CloseBrace}
use Rattle.giotto_text.specs.declared.tokens.Token.{Token}
use Rattle.giotto_text.specs.declared.tokens.Token.TheVariants as tokens
use Rattle.giotto_text.specs.Canonical.{keyword, symbol, initial_tokens, name_tokens, state_tokens, argument_tokens, operand_tokens, expression_tokens, with_commas, optional_list, in_braces, else_tokens, statement_tokens, block_tokens, sensor_tokens, actuator_tokens, output_tokens, task_tokens, guard_tokens, at_frequency, given_tokens, update_tokens, destination_tokens, switch_tokens, invocation_tokens, mode_tokens, canonical_tokens}
use Rattle.giotto_text.specs.Depth.{is_shallow, has_shallow_guard, is_shallow_update, is_shallow_switch, is_shallow_invocation, is_shallow_mode, is_shallow_task, is_shallow_program}
use Rattle.giotto_text.specs.declared.tokens.PlacedToken.{PlacedToken}
use Rattle.giotto_text.specs.Grammar as grammar
use Rattle.giotto_text.specs.Grammar.{symbol_of_unary, symbol_of_binary}
use Rattle.giotto_text.specs.Nesting.{open_behind, nests_too_deep_from, nests_too_deep}
use Rattle.giotto_text.specs.Parsing.{Outcome, got, stopped, read_block}
use Rattle.giotto_text.specs.Program.{TaskDeclaration, ActuatorUpdate, ModeSwitch, TaskInvocation, ModeDeclaration, GiottoProgram}
use Rattle.giotto_text.specs.Sound.{can_be_printed, IsPrintable}
use Rattle.giotto_text.specs.Spelling.{SpellsParts, all_spelled}
use Rattle.giotto_text.specs.Tokens.{bare}
use Rattle.giotto_text.proofs.cited.CanonicalNesting.{IsBalanced, open_after, open_after-append, deep_parts, deep_less, balanced_expression, balanced_operand, unary_symbol_opens_none, binary_symbol_opens_none}
use Rattle.giotto_text.proofs.CanonicalSound.{spelled_keeps}
use Rattle.giotto_text.proofs.ParserSteps.{Right, came, broke}
use Rattle.giotto_text.proofs.PartTokens.{tokens_of_parts}
use Rattle.giotto_text.proofs.TaskLines.{a_block, blocks_parse}

-- P follows if the tokens are in braces and don't nest too deep; as many brackets are open after the tokens as before
pub record Within (ts : List Token) (P : Type 0) : Type 0 where
  pub same : (n : ℕ) → open_after n ts ≡ n
  pub found : (n : ℕ) → 1 ≤ n → nests_too_deep_from n ts ≡ false → P

-- a token that opens and closes nothing, at the front
behind_token : {P : Type 0} (t : Token) (ts : List Token) → ((n : ℕ) → open_behind n t ≡ n) → Within ts P → Within (t ∷ ts) P
behind_token t ts none w = record {
  same = λ n. ap (λ k. open_after k ts) (none n) ∙ w.same n;
  found = λ n le h.
      let rest = (or_parts (nat_le 33 (open_behind n t)) (nests_too_deep_from (open_behind n t) ts) h).1 in
      w.found n le (subst (λ k. nests_too_deep_from k ts ≡ false) (none n) rest);
}

-- one token list after another
both : {P Q : Type 0} (ts us : List Token) → Within ts P → Within us Q → Within (ts ++ us) (P × Q)
both ts us v w = record {
  same = λ n. open_after-append n ts us ∙ ap (λ k. open_after k us) (v.same n) ∙ w.same n;
  found = λ n le h.
      let each = deep_parts n ts us h in
      (v.found n le each.0, w.found n le (subst (λ k. nests_too_deep_from k us ≡ false) (v.same n) each.1));
}

-- no tokens
nothing : Within [] (Unit {0})
nothing = record { same = λ n. refl; found = λ n le h. tt }

-- a consequence of P
weaker : {P Q : Type 0} {ts : List Token} → (P → Q) → Within ts P → Within ts Q
weaker f w = record { same = w.same; found = λ n le h. f (w.found n le h) }

-- tokens followed by others that prove nothing
first_of : {P : Type 0} (ts us : List Token) → Within ts P → Within us (Unit {0}) → Within (ts ++ us) P
first_of ts us v w = weaker (λ r. r.0) (both ts us v w)

-- tokens in brackets
enclosed : {P : Type 0} (left right : Token) (ts : List Token) → ((n : ℕ) → open_behind n left ≡ suc n) → ((n : ℕ) → open_behind (suc n) right ≡ n)
    → Within ts P → Within (left ∷ ts ++ right ∷ []) P
enclosed left right ts opens closes w = record {
  same = λ n.
      ap (λ k. open_after k (ts ++ right ∷ [])) (opens n) ∙ open_after-append (suc n) ts (right ∷ []) ∙ ap (λ k. open_behind k right) (w.same (suc n)) ∙ closes n;
  found = λ n le h.
      let rest = (or_parts (nat_le 33 (open_behind n left)) (nests_too_deep_from (open_behind n left) (ts ++ right ∷ [])) h).1 in
      let more = subst (λ k. nests_too_deep_from k (ts ++ right ∷ []) ≡ false) (opens n) rest in
      w.found (suc n) (omega arith) (deep_parts (suc n) ts (right ∷ []) more).0;
}

in_parentheses : {P : Type 0} (ts : List Token) → Within ts P → Within (symbol OpenParenthesis ∷ ts ++ symbol CloseParenthesis ∷ []) P
in_parentheses ts w = enclosed (symbol OpenParenthesis) (symbol CloseParenthesis) ts (λ n. refl) (λ n. omega arith) w

within_braces : {P : Type 0} (ts : List Token) → Within ts P → Within (in_braces ts) P
within_braces ts w = enclosed (symbol OpenBrace) (symbol CloseBrace) ts (λ n. refl) (λ n. omega arith) w

-- expressions

below : (n : ℕ) → nat_le 33 n ≡ false → n ≤ 32
below n h = grind (arith, nat_tests)

-- inside n open brackets, at most 33 - n operations of the expression are nested
abbrev IsBounded : Expression → Type 0
IsBounded e = (n : ℕ) → n ≤ 32 → nests_too_deep_from n (expression_tokens e) ≡ false → n + depth_of e ≤ 33

bracketed_depth : (e : Expression) → IsBounded e → (n : ℕ) → nests_too_deep_from n (symbol OpenParenthesis ∷ expression_tokens e ++ symbol CloseParenthesis ∷ []) ≡ false
    → n + depth_of e ≤ 32
bracketed_depth e bounded n h =
    let ts = expression_tokens e in
    let each = or_parts (nat_le 33 (suc n)) (nests_too_deep_from (suc n) (ts ++ symbol CloseParenthesis ∷ [])) h in
    let deep = bounded (suc n) (below (suc n) each.0) (deep_parts (suc n) ts (symbol CloseParenthesis ∷ []) each.1).0 in
    omega (arith, deep)

-- an operand: an operation needs parentheses
operand_depth : (e : Expression) → IsBounded e → (n : ℕ) → n ≤ 32 → nests_too_deep_from n (operand_tokens e (expression_tokens e)) ≡ false → n + depth_of e ≤ 32
operand_depth (number z) bounded n le h = omega arith
operand_depth (port x) bounded n le h = omega arith
operand_depth (unary o e) bounded n le h = bracketed_depth (unary o e) bounded n h
operand_depth (binary o a b) bounded n le h = bracketed_depth (binary o a b) bounded n h

expression_depth : (e : Expression) (n : ℕ) → n ≤ 32 → nests_too_deep_from n (expression_tokens e) ≡ false → n + depth_of e ≤ 33
expression_depth (number z) n le h = omega arith
expression_depth (port x) n le h = omega arith
expression_depth (unary o e) n le h =
    let t = symbol (symbol_of_unary o) in
    let ts = operand_tokens e (expression_tokens e) in
    let rest = (or_parts (nat_le 33 (open_behind n t)) (nests_too_deep_from (open_behind n t) ts) h).1 in
    let deep = operand_depth e (λ m. expression_depth e m) n le (subst (λ k. nests_too_deep_from k ts ≡ false) (unary_symbol_opens_none n o) rest) in
    omega (arith, deep)
expression_depth (binary o a b) n le h =
    let t = symbol (symbol_of_binary o) in
    let ts = operand_tokens a (expression_tokens a) in
    let us = operand_tokens b (expression_tokens b) in
    let each = deep_parts n ts (t ∷ us) h in
    let balanced = balanced_operand a (expression_tokens a) (balanced_expression a) in
    let second = subst (λ k. nests_too_deep_from k (t ∷ us) ≡ false) (balanced.same n) each.1 in
    let rest = (or_parts (nat_le 33 (open_behind n t)) (nests_too_deep_from (open_behind n t) us) second).1 in
    let left = operand_depth a (λ m. expression_depth a m) n le each.0 in
    let right = operand_depth b (λ m. expression_depth b m) n le (subst (λ k. nests_too_deep_from k us ≡ false) (binary_symbol_opens_none n o) rest) in
    let a_fits : depth_of a ≤ 32 - n = omega (arith, left) in
    let b_fits : depth_of b ≤ 32 - n = omega (arith, right) in
    let most = max-le a_fits b_fits in
    omega (arith, most)

-- an expression in braces
expression_within : (e : Expression) → Within (expression_tokens e) (depth_of e ≤ 32)
expression_within e = record { same = balanced.same; found = found }
  where
    balanced : IsBalanced (expression_tokens e)
    balanced = balanced_expression e

    found : (n : ℕ) → 1 ≤ n → nests_too_deep_from n (expression_tokens e) ≡ false → depth_of e ≤ 32
    found n le h =
        let deep = expression_depth e 1 (omega arith) (deep_less 1 n (expression_tokens e) le h) in
        omega (arith, deep)

test_of : (m : ℕ) → m ≤ 32 → nat_le m 32 ≡ true
test_of m le = le-leb m 32 le

shallow_within : (e : Expression) → Within (expression_tokens e) (is_shallow e ≡ true)
shallow_within e = weaker (test_of (depth_of e)) (expression_within e)

-- lists

parts_within : {X : Type 0} (test : X → Bool) (f : X → List Token) → ((x : X) → Within (f x) (test x ≡ true)) → (xs : List X) → Within (flat_map f xs) (list_all test xs ≡ true)
parts_within test f each [] = weaker (λ _. refl) nothing
parts_within test f each (x ∷ xs) =
    weaker (λ r. and_from (test x) (list_all test xs) r.0 r.1) (both (f x) (flat_map f xs) (each x) (parts_within test f each xs))

list_within : {X : Type 0} (test : X → Bool) (f : X → List Token) → ((x : X) → Within (f x) (test x ≡ true)) → (xs : List X) → Within (with_commas (map f xs)) (list_all test xs ≡ true)
list_within test f each [] = weaker (λ _. refl) nothing
list_within test f each (x ∷ []) = weaker (λ h. and_from (test x) true h refl) (each x)
list_within test f each (x ∷ y ∷ xs) =
    let rest = behind_token (symbol Comma) (with_commas (map f (y ∷ xs))) (λ n. refl) (list_within test f each (y ∷ xs)) in
    weaker (λ r. and_from (test x) (list_all test (y ∷ xs)) r.0 r.1) (both (f x) (symbol Comma ∷ with_commas (map f (y ∷ xs))) (each x) rest)

-- statements

alone : (t : Token) → ((n : ℕ) → open_behind n t ≡ n) → Within (t ∷ []) (Unit {0})
alone t none = behind_token t [] none nothing

-- "name := expression ;"
given_within : (x : Name) (e : Expression) → Within (given_tokens x e) (depth_of e ≤ 32)
given_within x e =
    behind_token (tokens.Name x) (symbol Becomes ∷ expression_tokens e ++ symbol Semicolon ∷ []) (λ n. refl)
    (behind_token (symbol Becomes) (expression_tokens e ++ symbol Semicolon ∷ []) (λ n. refl)
    (first_of (expression_tokens e) (symbol Semicolon ∷ []) (expression_within e) (alone (symbol Semicolon) (λ n. refl))))

given_shallow : (x : Name) (e : Expression) → Within (given_tokens x e) (is_shallow e ≡ true)
given_shallow x e = weaker (test_of (depth_of e)) (given_within x e)

else_within : (b : Block) → Within (block_tokens b) (depth_of_block b ≤ 32) → Within (else_tokens b (block_tokens b)) (depth_of_block b ≤ 32)
else_within finished w = weaker (λ _. omega arith) nothing
else_within (step s b) w = behind_token (keyword Else) (in_braces (block_tokens (step s b))) (λ n. refl) (within_braces (block_tokens (step s b)) w)

mutual
  statement_within : (s : Statement) → Within (statement_tokens s) (depth_of_statement s ≤ 32)
  statement_within (assign x e) = given_within x e
  statement_within (branch c a b) =
      let otherwise = else_within b (block_within b) in
      let blocks = both (in_braces (block_tokens a)) (else_tokens b (block_tokens b)) (within_braces (block_tokens a) (block_within a)) otherwise in
      behind_token (keyword If) (expression_tokens c ++ (in_braces (block_tokens a) ++ else_tokens b (block_tokens b))) (λ n. refl)
      (weaker (λ r. max-le r.0 (max-le r.1.0 r.1.1)) (both (expression_tokens c) (in_braces (block_tokens a) ++ else_tokens b (block_tokens b)) (expression_within c) blocks))
  statement_within (repeat n b) =
      behind_token (keyword Repeat) (tokens.Number n ∷ in_braces (block_tokens b)) (λ n. refl)
      (behind_token (tokens.Number n) (in_braces (block_tokens b)) (λ n. refl) (within_braces (block_tokens b) (block_within b)))

  pub block_within : (b : Block) → Within (block_tokens b) (depth_of_block b ≤ 32)
  block_within finished = weaker (λ _. omega arith) nothing
  block_within (step s b) = weaker (λ r. max-le r.0 r.1) (both (statement_tokens s) (block_tokens b) (statement_within s) (block_within b))

-- drivers

guard_within : (g : Option Expression) → Within (guard_tokens g) (has_shallow_guard g ≡ true)
guard_within None = weaker (λ _. refl) nothing
guard_within (Some e) = behind_token (keyword If) (expression_tokens e) (λ n. refl) (shallow_within e)

frequency_within : (k : Keyword) (w : ℕ) (g : Option Expression) → Within (at_frequency k w g) (has_shallow_guard g ≡ true)
frequency_within k w g =
    behind_token (keyword k) (tokens.Number w ∷ guard_tokens g ++ keyword Do ∷ []) (λ n. refl)
    (behind_token (tokens.Number w) (guard_tokens g ++ keyword Do ∷ []) (λ n. refl)
    (first_of (guard_tokens g) (keyword Do ∷ []) (guard_within g) (alone (keyword Do) (λ n. refl))))

update_within : (u : ActuatorUpdate) → Within (update_tokens u) (is_shallow_update u ≡ true)
update_within u =
    weaker (λ r. and_from (has_shallow_guard u.guard) (is_shallow u.value) r.0 r.1)
    (both (at_frequency ActFreq u.frequency u.guard) (given_tokens u.actuator u.value) (frequency_within ActFreq u.frequency u.guard) (given_shallow u.actuator u.value))

destinations_within : (ds : List (Name × Expression)) → Within (destination_tokens ds) (list_all (λ (d : Name × Expression). is_shallow d.1) ds ≡ true)
destinations_within [] = weaker (λ _. refl) nothing
destinations_within (d ∷ ds) =
    within_braces (flat_map (λ (d : Name × Expression). given_tokens d.0 d.1) (d ∷ ds))
    (parts_within (λ (d : Name × Expression). is_shallow d.1) (λ (d : Name × Expression). given_tokens d.0 d.1) (λ d. given_shallow d.0 d.1) (d ∷ ds))

switch_within : (s : ModeSwitch) → Within (switch_tokens s) (is_shallow_switch s ≡ true)
switch_within s =
    let ds = destination_tokens s.destinations in
    let behind = behind_token (tokens.Name s.target) (ds ++ symbol Semicolon ∷ []) (λ n. refl)
    (first_of ds (symbol Semicolon ∷ []) (destinations_within s.destinations) (alone (symbol Semicolon) (λ n. refl))) in
    subst (λ ts. Within ts (is_shallow_switch s ≡ true)) (sym (append_assoc (at_frequency ExitFreq s.frequency s.guard) (tokens.Name s.target ∷ ds) (symbol Semicolon ∷ [])))
    (weaker (λ r. and_from (has_shallow_guard s.guard) (list_all (λ (d : Name × Expression). is_shallow d.1) s.destinations) r.0 r.1)
    (both (at_frequency ExitFreq s.frequency s.guard) (tokens.Name s.target ∷ ds ++ symbol Semicolon ∷ []) (frequency_within ExitFreq s.frequency s.guard) behind))

invocation_within : (i : TaskInvocation) → Within (invocation_tokens i) (is_shallow_invocation i ≡ true)
invocation_within i =
    let arguments = argument_tokens i.arguments in
    let given = list_within is_shallow expression_tokens shallow_within i.arguments in
    let enclosed = in_parentheses arguments given in
    let end : Within (symbol Semicolon ∷ []) (Unit {0}) = alone (symbol Semicolon) (λ n. refl) in
    let all = first_of (symbol OpenParenthesis ∷ arguments ++ symbol CloseParenthesis ∷ []) (symbol Semicolon ∷ []) enclosed end in
    let joined : (symbol OpenParenthesis ∷ arguments ++ symbol CloseParenthesis ∷ []) ++ symbol Semicolon ∷ [] ≡ symbol OpenParenthesis ∷ arguments ++ symbol CloseParenthesis ∷ symbol Semicolon ∷ [] =
    ap (λ ts. symbol OpenParenthesis ∷ ts) (append_assoc arguments (symbol CloseParenthesis ∷ []) (symbol Semicolon ∷ [])) in
    let behind = behind_token (tokens.Name i.task) (symbol OpenParenthesis ∷ arguments ++ symbol CloseParenthesis ∷ symbol Semicolon ∷ []) (λ n. refl)
    (subst (λ ts. Within ts (list_all is_shallow i.arguments ≡ true)) joined all) in
    subst (λ ts. Within ts (is_shallow_invocation i ≡ true))
    (sym (append_assoc (at_frequency TaskFreq i.frequency i.guard) (tokens.Name i.task ∷ symbol OpenParenthesis ∷ arguments) (symbol CloseParenthesis ∷ symbol Semicolon ∷ [])))
    (weaker (λ r. and_from (has_shallow_guard i.guard) (list_all is_shallow i.arguments) r.0 r.1)
    (both (at_frequency TaskFreq i.frequency i.guard) (tokens.Name i.task ∷ symbol OpenParenthesis ∷ arguments ++ symbol CloseParenthesis ∷ symbol Semicolon ∷ []) (frequency_within TaskFreq i.frequency i.guard) behind))

drivers_within : (m : ModeDeclaration)
    → Within (flat_map update_tokens m.updates ++ (flat_map switch_tokens m.switches ++ flat_map invocation_tokens m.invocations)) (is_shallow_mode m ≡ true)
drivers_within m =
    let us = flat_map update_tokens m.updates in
    let ss = flat_map switch_tokens m.switches in
    let is = flat_map invocation_tokens m.invocations in
    let updates = parts_within is_shallow_update update_tokens update_within m.updates in
    let switches = parts_within is_shallow_switch switch_tokens switch_within m.switches in
    let invocations = parts_within is_shallow_invocation invocation_tokens invocation_within m.invocations in
    let rest = weaker (λ r. and_from (list_all is_shallow_switch m.switches) (list_all is_shallow_invocation m.invocations) r.0 r.1) (both ss is switches invocations) in
    weaker (λ r. and_from (list_all is_shallow_update m.updates) (list_all is_shallow_switch m.switches && list_all is_shallow_invocation m.invocations) r.0 r.1)
    (both us (ss ++ is) updates rest)

-- programs

-- tokens, and the tokens after them
parts_of : (ts us : List Token) → nests_too_deep (ts ++ us) ≡ false → (nests_too_deep ts ≡ false) × (nests_too_deep us ≡ false)
parts_of ts us h =
    let each = deep_parts 0 ts us h in
    (each.0, deep_less 0 (open_after 0 ts) us (omega arith) each.1)

-- tokens in braces, after some others
braced : {P : Type 0} (front ts : List Token) → Within ts P → nests_too_deep (front ++ in_braces ts) ≡ false → P
braced front ts w h =
    let inner = (parts_of front (in_braces ts) h).1 in
    let opened = (or_parts (nat_le 33 1) (nests_too_deep_from 1 (ts ++ symbol CloseBrace ∷ [])) inner).1 in
    w.found 1 (omega arith) (deep_parts 1 ts (symbol CloseBrace ∷ []) opened).0

each_part : {X : Type 0} (test : X → Bool) (f : X → List Token) → ((x : X) → nests_too_deep (f x) ≡ false → test x ≡ true) → (xs : List X)
    → nests_too_deep (flat_map f xs) ≡ false → list_all test xs ≡ true
each_part test f each [] h = refl
each_part test f each (x ∷ xs) h =
    let parts = parts_of (f x) (flat_map f xs) h in
    and_from (test x) (list_all test xs) (each x parts.0) (each_part test f each xs parts.1)

task_shallow : (t : TaskDeclaration) → nests_too_deep (task_tokens t) ≡ false → is_shallow_task t ≡ true
task_shallow t h =
    let inputs = with_commas (map name_tokens t.inputs) in
    let outputs = optional_list Output (map name_tokens t.outputs) in
    let states = optional_list State (map state_tokens t.states) in
    let body = in_braces (block_tokens t.block) in
    let behind_name = (parts_of (keyword Task ∷ tokens.Name t.name ∷ symbol OpenParenthesis ∷ inputs) (symbol CloseParenthesis ∷ outputs ++ (states ++ body)) h).1 in
    let behind_outputs = (parts_of (symbol CloseParenthesis ∷ outputs) (states ++ body) behind_name).1 in
    test_of (depth_of_block t.block) (braced states (block_tokens t.block) (block_within t.block) behind_outputs)

mode_shallow : (m : ModeDeclaration) → nests_too_deep (mode_tokens m) ≡ false → is_shallow_mode m ≡ true
mode_shallow m h =
    braced (keyword Mode ∷ tokens.Name m.name ∷ keyword Period ∷ tokens.Number m.period ∷ [])
    (flat_map update_tokens m.updates ++ (flat_map switch_tokens m.switches ++ flat_map invocation_tokens m.invocations)) (drivers_within m) h

-- each expression of a program whose canonical tokens don't nest too deep is shallow
pub program_shallow : (p : GiottoProgram) → nests_too_deep (canonical_tokens p) ≡ false → is_shallow_program p ≡ true
program_shallow p h =
    let start = keyword Start ∷ tokens.Name p.start ∷ symbol Semicolon ∷ [] in
    let modes = flat_map mode_tokens p.modes in
    let tasks = flat_map task_tokens p.tasks in
    let outputs = flat_map output_tokens p.outputs in
    let actuators = flat_map actuator_tokens p.actuators in
    let behind_sensors = (parts_of (flat_map sensor_tokens p.sensors) (actuators ++ (outputs ++ (tasks ++ (modes ++ start)))) h).1 in
    let behind_actuators = (parts_of actuators (outputs ++ (tasks ++ (modes ++ start))) behind_sensors).1 in
    let behind_outputs = (parts_of outputs (tasks ++ (modes ++ start)) behind_actuators).1 in
    let at_tasks = parts_of tasks (modes ++ start) behind_outputs in
    let at_modes = parts_of modes start at_tasks.1 in
    and_from (list_all is_shallow_task p.tasks) (list_all is_shallow_mode p.modes)
    (each_part is_shallow_task task_tokens task_shallow p.tasks at_tasks.0) (each_part is_shallow_mode mode_tokens mode_shallow p.modes at_modes.0)

-- each expression of a program that can be printed is shallow
pub printable_shallow : (p : GiottoProgram) → IsPrintable p → is_shallow_program p ≡ true
printable_shallow p (can_be_printed sound spelled shallow small) = program_shallow p shallow

-- what was read

-- tokens that spell a block, and don't nest too deep
spelled_shallow : (ts : List Token) (b : Block) → SpellsParts ts (grammar.block b ∷ []) → nests_too_deep ts ≡ false → depth_of_block b ≤ 32
spelled_shallow ts b spelled h =
    let canonical = (spelled_keeps spelled).shallow 0 [] (ap nests_too_deep (append-nil ts) ∙ h) in
    let whole : (tokens_of_parts (grammar.block b ∷ []) ++ []) ≡ in_braces (block_tokens b) = append-nil (in_braces (block_tokens b) ++ []) ∙ append-nil (in_braces (block_tokens b)) in
    braced [] (block_tokens b) (block_within b) (ap nests_too_deep (sym whole) ∙ canonical)

abbrev block_got : Outcome Block → Block
block_got (got b rest) = b
block_got (stopped rest) = finished

-- the block that tokens begin with, if they don't nest too deep
pub block_read : (ts rest : List PlacedToken) (b : Block) → nests_too_deep (bare ts) ≡ false → read_block ts ≡ got b rest → depth_of_block b ≤ 32
block_read ts rest b h e = by (read_block ts) (blocks_parse {n = suc (length ts)} ts (omega arith)) e
  where
    by : (o : Outcome Block) → Right a_block (λ b. b) ts o → o ≡ got b rest → depth_of_block b ≤ 32
    by _ (came front behind v is value spans) e =
        let joined : bare ts ≡ bare front ++ bare behind = ap bare is ∙ map-append (λ p. p.token) front behind in
        let fits = (deep_parts 0 (bare front) (bare behind) (ap nests_too_deep (sym joined) ∙ h)).0 in
        let spelled : SpellsParts (bare front) (grammar.block v ∷ []) = subst (λ us. SpellsParts us (grammar.block v ∷ [])) (append-nil (bare front)) (spans.spells [] [] all_spelled) in
        let same : b ≡ v = sym (ap block_got e) ∙ value in
        subst (λ c. depth_of_block c ≤ 32) (sym same) (spelled_shallow (bare front) v spelled fits)
    by _ (broke front behind is breaks) e = absurd (cc)

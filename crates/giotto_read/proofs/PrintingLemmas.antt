-- How lists, blocks and whole texts are written.
use Rattle.std.proofs.Common.{◌≡◌, ℕ, Bool, true, false, ◌+◌, ◌<◌, List, [], ◌∷◌, ◌++◌, length, length-append, get_or, take, map, Vec, Global, refl, sym, ap, ◌∙◌, append_assoc, arith, rules}
use Rattle.std.specs.Prelude.{◌==◌}
use Rattle.std.specs.List.{flat_map, join_with_byte}
use Rattle.std.proofs.lemmas.List.{nil_from_length, append-nil, take_more, map-append, length-map, length-take-le}
use Rattle.std.proofs.lemmas.Bool.Decides.{nat_tests}
use Rattle.std.proofs.lemmas.Grind.{flat_map-append}
use Rattle.giotto_tasks.specs.Syntax.{repeat}
use Rattle.giotto_tasks.specs.Trees.{statement_of, block_of}
use Rattle.giotto_tasks.specs.declared.bodies.Stmt.{Stmt, Repeat, the_lemmas}
use Rattle.giotto_text.specs.declared.programs.Destination.{Destination}
use Rattle.giotto_text.specs.ProgramTrees.{destination_of}
use Rattle.giotto_text.specs.declared.tokens.Keyword.{Keyword}
use Rattle.giotto_text.specs.declared.tokens.Keyword.TheVariants.{If, Else, Start}
use Rattle.giotto_text.specs.declared.tokens.Symbol.TheVariants.{Comma, Semicolon, OpenBrace, CloseBrace}
use Rattle.giotto_text.specs.declared.tokens.Token.{Token}
use Rattle.giotto_text.specs.declared.tokens.Token.TheVariants as tokens
use Rattle.giotto_text.specs.Program.{GiottoProgram}
use Rattle.giotto_text.specs.Canonical.{actuator_tokens, block_tokens, canonical_tokens, destination_tokens, else_tokens, given_tokens, in_braces, keyword, mode_tokens, output_tokens, sensor_tokens, task_tokens, optional_list, statement_tokens, symbol, text_of, with_commas}
use Rattle.giotto_read.specs.inner.Printing.{written, comma_before}
use Rattle.giotto_read.proofs.Writing.{written_first, written-append}

-- one more element of a list whose elements are written with f
pub written_more : {X Y : Type 0} (f : Y → List Token) (g : X → Y) (text : List ℕ) (xs : List X) (i : ℕ) (x : X) (now next : List ℕ) → i < length xs → x ≡ get_or xs i x
    → now ≡ written text (flat_map f (map g (take i xs))) → next ≡ written now (f (g x)) → next ≡ written text (flat_map f (map g (take (i + 1) xs)))
written_more f g text xs i x now next within is before after =
    let one : flat_map f (map g (take (i + 1) xs)) ≡ flat_map f (map g (take i xs)) ++ f (g x) =
    rw (take_more xs i x within, sym is, map-append, flat_map-append, append-nil) refl in
    rw (after, before, one, written-append text (flat_map f (map g (take i xs))) (f (g x))) refl

with_commas_push : (ps : List (List Token)) (p : List Token) → with_commas (ps ++ p ∷ []) ≡ with_commas ps ++ (comma_before (length ps) ++ p)
with_commas_push [] p = refl
with_commas_push (q ∷ []) p = refl
with_commas_push (q ∷ r ∷ qs) p =
    let rest : with_commas (r ∷ qs ++ p ∷ []) ≡ with_commas (r ∷ qs) ++ (symbol Comma ∷ p) = with_commas_push (r ∷ qs) p in
    rw (rest, append_assoc q (symbol Comma ∷ with_commas (r ∷ qs)) (symbol Comma ∷ p)) refl

-- one more element of a list with commas
pub commas_more : {X : Type 0} (f : X → List Token) (text : List ℕ) (xs : List X) (i : ℕ) (x : X) (now between next : List ℕ) → i < length xs → x ≡ get_or xs i x
    → now ≡ written text (with_commas (map f (take i xs))) → between ≡ written now (comma_before i) → next ≡ written between (f x)
    → next ≡ written text (with_commas (map f (take (i + 1) xs)))
commas_more f text xs i x now between next within is before comma after =
    let size : length (map f (take i xs)) ≡ i = rw (length-map, length-take-le i xs (omega (arith, within))) refl in
    let one : with_commas (map f (take (i + 1) xs)) ≡ with_commas (map f (take i xs)) ++ (comma_before i ++ f x) =
    rw (take_more xs i x within, sym is, map-append, with_commas_push, size) refl in
    rw (after, comma, before, one, written-append, written-append) refl

-- a list that isn't empty is written after its keyword
pub optional_some : {X : Type 0} (k : Keyword) (f : X → List Token) (xs : List X) → 0 < length xs → optional_list k (map f xs) ≡ keyword k ∷ with_commas (map f xs)
optional_some k f [] some = absurd (omega arith)
optional_some k f (x ∷ xs) some = refl

-- a block's statements, one after another
pub statements_written : (ss : List Stmt) → block_tokens (block_of ss) ≡ flat_map statement_tokens (map statement_of ss)
statements_written [] = refl
statements_written (s ∷ ss) = rw (statements_written ss) refl

pub repeat_of : (n : ℕ) (b : Vec Stmt Global) → statement_of (Repeat n b) ≡ repeat n (block_of b.items)
repeat_of n b = search (rules, the_lemmas)

-- Tokens as they are written: with a space between each two, and one after the last.
pub written_joined : (text : List ℕ) (ts : List Token) → 0 < length ts → written text ts ≡ (text ++ join_with_byte 32 (map text_of ts)) ++ 32 ∷ []
unfolding written
written_joined text [] some = absurd (omega arith)
written_joined text (t ∷ []) some = sym (append_assoc text (text_of t) (32 ∷ []))
written_joined text (t ∷ u ∷ ts) some =
    let rest = join_with_byte 32 (map text_of (u ∷ ts)) in
    let others : 0 < length (u ∷ ts) = omega arith in
    written_joined (text ++ (text_of t ++ 32 ∷ [])) (u ∷ ts) others
    ∙ ap (λ bytes. bytes ++ 32 ∷ []) (append_assoc text (text_of t ++ 32 ∷ []) rest ∙ ap (λ bytes. text ++ bytes) (append_assoc (text_of t) (32 ∷ []) rest))

-- a program has at least one token: its start mode
pub some_tokens : (p : GiottoProgram) → 0 < length (canonical_tokens p)
some_tokens p =
    let a = flat_map sensor_tokens p.sensors in
    let b = flat_map actuator_tokens p.actuators in
    let c = flat_map output_tokens p.outputs in
    let d = flat_map task_tokens p.tasks in
    let e = flat_map mode_tokens p.modes in
    let end = keyword Start ∷ tokens.Name p.start ∷ symbol Semicolon ∷ [] in
    omega (arith, length-append a (b ++ (c ++ (d ++ (e ++ end)))), length-append b (c ++ (d ++ (e ++ end))), length-append c (d ++ (e ++ end)), length-append d (e ++ end), length-append e end)

-- what `is_empty` says about a list
pub none_left : {X : Type 0} (xs : List X) (b : Bool) → b ≡ (length xs == 0) → b ≡ true → xs ≡ []
none_left xs b test is = nil_from_length xs (grind (arith, nat_tests, test, is))

pub some_left : {X : Type 0} (xs : List X) (b : Bool) → b ≡ (length xs == 0) → b ≡ false → 0 < length xs
some_left xs b test is = grind (arith, nat_tests, test, is)

-- the text after the first token
pub behind : (text now : List ℕ) (t : Token) (ts : List Token) → now ≡ written text (t ∷ []) → written text (t ∷ ts) ≡ written now ts
behind text now t ts is = rw (written_first text t ts, is) refl

pub braces_written : (text first_mark inner : List ℕ) (ts : List Token) → first_mark ≡ written text (symbol OpenBrace ∷ []) → inner ≡ written first_mark ts → written text (in_braces ts) ≡ written inner (symbol CloseBrace ∷ [])
braces_written text first_mark inner ts first middle =
    rw (behind text first_mark (symbol OpenBrace) (ts ++ symbol CloseBrace ∷ []) first, written-append first_mark ts (symbol CloseBrace ∷ []), middle) refl

pub branch_written : (text word test then : List ℕ) (condition block rest : List Token) → word ≡ written text (keyword If ∷ []) → test ≡ written word condition → then ≡ written test block
    → written text (keyword If ∷ condition ++ (block ++ rest)) ≡ written then rest
branch_written text word test then condition block rest first second third =
    rw (behind text word (keyword If) (condition ++ (block ++ rest)) first, written-append word condition (block ++ rest), sym second, written-append test block rest, third) refl

-- a block that isn't empty is written after its `else`
pub else_some : (ss : List Stmt) (ts : List Token) → 0 < length ss → else_tokens (block_of ss) ts ≡ keyword Else ∷ in_braces ts
else_some [] ts some = absurd (omega arith)
else_some (s ∷ ss) ts some = refl

pub destinations_some : (ds : List Destination) → 0 < length ds → destination_tokens (map destination_of ds) ≡ in_braces (flat_map (λ d. given_tokens d.0 d.1) (map destination_of ds))
destinations_some [] some = absurd (omega arith)
destinations_some (d ∷ ds) some = refl

-- The command about grants of a line, by its first words and what follows them.
use Rattle.std.proofs.Common.{◌≡◌, ℕ, ℤ, ◌<◌, ◌==◌, ◌&&◌, Bool, true, false, List, [], ◌∷◌, length, if◌then◌else◌, Option, Some, None, codes, refl, sym, ap, ◌∙◌, arith}
use Rattle.std.proofs.lemmas.Bool.Decides.{nat_tests}
use Rattle.std.proofs.lemmas.List.{nil_from_length}
use Rattle.std.specs.Bool.{then_some}
use Rattle.std.specs.Option.{option_and_then}
use Rattle.giotto_tasks.specs.Names.{same_name}
use Rattle.giotto_tasks.proofs.cited.NameLemmas.{same_name_self}
use Rattle.giotto_text.specs.Bytes.{is_name}
use Rattle.tenant_lines.specs.declared.grant_lines.GrantCommand.{GrantCommand}
use Rattle.tenant_lines.specs.declared.grant_lines.GrantCommand.TheVariants.{Rows}
use Rattle.tenant_grants.specs.config.Intervals.{Interval, from_to}
use Rattle.tenant_lines.specs.GrantLines.{bounded_offer_command, bounds_of_words, offer_command, unoffer_command, bind_command, unbind_command, grant_command_of_words}
use Rattle.tenant_lines.specs.Words.{value_of_word, words_of, first_word_of, behind_first_word}
use Rattle.tenant_lines.specs.inner.CutLines.{words_from}
use Rattle.tenant_lines.specs.inner.GrantWords.{offer_by, offer_within, word_behind}
use Rattle.tenant_lines.proofs.CommandLines.{by_word, not_same, words_begin}
use Rattle.tenant_lines.proofs.cited.WordLemmas.{words_first, words_none}

-- another word first
other_first : (k w : List ℕ) (ws : List (List ℕ)) → same_name w k ≡ false → word_behind k (w ∷ ws) ≡ []
other_first k w [] e = refl
other_first k w (y ∷ []) e = rw e refl
other_first k w (y ∷ z ∷ zs) e = refl

pub word_behind_other : (k line : List ℕ) → same_name (first_word_of line) k ≡ false → word_behind k (words_of line) ≡ []
word_behind_other k line other = by_word line (λ ws. word_behind k ws ≡ [])
    (λ none. refl)
    (λ some. other_first k (first_word_of line) (words_of (behind_first_word line)) other)

-- more than two words
pub word_behind_more : (k line : List ℕ) → 0 < length (first_word_of (behind_first_word (behind_first_word line))) → word_behind k (words_of line) ≡ []
word_behind_more k line more =
    let behind = behind_first_word line in
    by_word line (λ ws. word_behind k ws ≡ []) (λ none. refl)
    (λ some. by_word behind (λ ws. word_behind k (first_word_of line ∷ ws) ≡ []) (λ none. refl)
    (λ second. rw (words_first (behind_first_word behind) more) refl))

-- these two words
pub word_behind_is : (k line : List ℕ) → 0 < length k → first_word_of line ≡ k → length (first_word_of (behind_first_word (behind_first_word line))) ≡ 0
    → word_behind k (words_of line) ≡ first_word_of (behind_first_word line)
word_behind_is k line some is none =
    let behind = behind_first_word line in
    let two : (w : List ℕ) → word_behind k (k ∷ w ∷ []) ≡ w = λ w. rw (same_name_self k) refl in
    ap (word_behind k) (words_begin line k is some) ∙ by_word behind (λ ws. word_behind k (k ∷ ws) ≡ first_word_of behind)
    (λ no_word. sym (nil_from_length (first_word_of behind) no_word))
    (λ second. rw (words_none (behind_first_word behind) none) (two (first_word_of behind)))

-- None, whatever the test says
either : (b : Bool) (x : Option GrantCommand) → x ≡ None → (if b then x else None) ≡ None
either true x none = none
either false x none = refl

-- more than four words are a command only if the first is "offer"
pub no_more : (v x w y z : List ℕ) (zs : List (List ℕ)) → same_name v (codes "offer") ≡ false → grant_command_of_words (v ∷ x ∷ w ∷ y ∷ z ∷ zs) ≡ None
no_more v x w y z [] other = refl
no_more v x w y z (a ∷ []) other = refl
no_more v x w y z (a ∷ b ∷ []) other = refl
no_more v x w y z (a ∷ b ∷ c ∷ []) other = rw other refl
no_more v x w y z (a ∷ b ∷ c ∷ d ∷ ds) other = refl

-- "V NAME K WORD" is the command f of its name and its last word, and no other line that begins with v is one
abbrev IsOfFour : List ℕ → List ℕ → (List ℕ → List ℕ → Option GrantCommand) → Type 0
IsOfFour v k f = record {
  no_name : (y : List ℕ) → f [] y ≡ None;
  no_word : (x : List ℕ) → f x [] ≡ None;
  one : grant_command_of_words (v ∷ []) ≡ None;
  two : (x : List ℕ) → grant_command_of_words (v ∷ x ∷ []) ≡ None;
  four : (x w y : List ℕ) → grant_command_of_words (v ∷ x ∷ w ∷ y ∷ []) ≡ (if same_name w k then f x y else None);
  other : same_name v (codes "offer") ≡ false;
}

of_words : (v k : List ℕ) (f : List ℕ → List ℕ → Option GrantCommand) → IsOfFour v k f → (x : List ℕ) (ws : List (List ℕ))
    → grant_command_of_words (v ∷ x ∷ ws) ≡ f x (word_behind k ws)
of_words v k f is x [] = is.two x ∙ sym (is.no_word x)
of_words v k f is x (w ∷ []) = sym (is.no_word x)
of_words v k f is x (w ∷ y ∷ []) = is.four x w y ∙ by (same_name w k)
  where
    by : (b : Bool) → (if b then f x y else None) ≡ f x (if b then y else [])
    by true = refl
    by false = sym (is.no_word x)
of_words v k f is x (w ∷ y ∷ z ∷ zs) = no_more v x w y z zs is.other ∙ sym (is.no_word x)

of_line : (v k : List ℕ) (f : List ℕ → List ℕ → Option GrantCommand) → IsOfFour v k f → (rest : List ℕ)
    → grant_command_of_words (v ∷ words_of rest) ≡ f (first_word_of rest) (word_behind k (words_of (behind_first_word rest)))
of_line v k f is rest =
    let last = word_behind k (words_of (behind_first_word rest)) in
    by_word rest (λ ws. grant_command_of_words (v ∷ ws) ≡ f (first_word_of rest) last)
    (λ none. is.one ∙ sym (no_name (first_word_of rest) last none))
    (λ some. of_words v k f is (first_word_of rest) (words_of (behind_first_word rest)))
  where
    no_name : (x y : List ℕ) → length x ≡ 0 → f x y ≡ None
    no_name [] y e = is.no_name y
    no_name (c ∷ cs) y e = absurd (omega (arith, e))

offer_nobody : (a : List ℕ) (bounds : Option Interval) → offer_command a [] bounds ≡ None
offer_nobody a bounds = by (is_name a) refl
  where
    by : (b : Bool) → is_name a ≡ b → offer_command a [] bounds ≡ None
    by true e = rw e refl
    by false e = rw e refl

unoffer_nobody : (a : List ℕ) → unoffer_command a [] ≡ None
unoffer_nobody a = by (is_name a) refl
  where
    by : (b : Bool) → is_name a ≡ b → unoffer_command a [] ≡ None
    by true e = rw e refl
    by false e = rw e refl

bind_nobody : (s : List ℕ) → bind_command s [] ≡ None
bind_nobody s = by (is_name s) refl
  where
    by : (b : Bool) → is_name s ≡ b → bind_command s [] ≡ None
    by true e = rw e refl
    by false e = rw e refl

-- without a greatest value there are no bounds
no_high : (a t low : List ℕ) → bounded_offer_command a t low [] ≡ None
no_high a t low = by (value_of_word low)
  where
    by : (z : Option ℤ) → option_and_then (λ bounds. offer_command a t (Some bounds)) (option_and_then (λ l. option_and_then (from_to l) (value_of_word [])) z) ≡ None
    by None = refl
    by (Some z) = refl

-- "offer NAME" by the words after it
offer_words : (x : List ℕ) (ws : List (List ℕ)) → grant_command_of_words (codes "offer" ∷ x ∷ ws) ≡ offer_by x ws
offer_words x [] = sym (offer_nobody x None)
offer_words x (w ∷ []) = sym (offer_nobody x None)
offer_words x (w ∷ t ∷ []) = by (same_name w (codes "to"))
  where
    by : (b : Bool) → (if b then offer_command x t None else None) ≡ offer_command x (if b then t else []) None
    by true = refl
    by false = sym (offer_nobody x None)
offer_words x (w ∷ t ∷ k ∷ []) = sym (either (same_name w (codes "to") && same_name k (codes "from")) None refl)
offer_words x (w ∷ t ∷ k ∷ low ∷ []) = sym (either (same_name w (codes "to") && same_name k (codes "from")) (bounded_offer_command x t low []) (no_high x t low))
offer_words x (w ∷ t ∷ k ∷ low ∷ l ∷ []) = sym (either (same_name w (codes "to") && same_name k (codes "from")) (bounded_offer_command x t low []) (no_high x t low))
offer_words x (w ∷ t ∷ k ∷ low ∷ l ∷ high ∷ []) = by (same_name w (codes "to")) (same_name k (codes "from")) (same_name l (codes "to"))
  where
    by : (a b c : Bool) → (if a && b && c then bounded_offer_command x t low high else None) ≡ (if a && b then bounded_offer_command x t low (if c then high else []) else None)
    by true true true = refl
    by true true false = sym (no_high x t low)
    by true false c = refl
    by false b c = refl
offer_words x (w ∷ t ∷ k ∷ low ∷ l ∷ high ∷ z ∷ zs) = sym (either (same_name w (codes "to") && same_name k (codes "from")) (bounded_offer_command x t low []) (no_high x t low))

-- a line that begins with "offer"
pub offered : (rest : List ℕ) → grant_command_of_words (codes "offer" ∷ words_of rest) ≡ offer_by (first_word_of rest) (words_of (behind_first_word rest))
offered rest =
    by_word rest (λ ws. grant_command_of_words (codes "offer" ∷ ws) ≡ offer_by (first_word_of rest) (words_of (behind_first_word rest)))
    (λ none. sym (no_actuator (first_word_of rest) (words_of (behind_first_word rest)) none))
    (λ some. offer_words (first_word_of rest) (words_of (behind_first_word rest)))
  where
    nameless : (x t : List ℕ) (bounds : Option Interval) → length x ≡ 0 → offer_command x t bounds ≡ None
    nameless [] t bounds none = refl
    nameless (c ∷ cs) t bounds none = absurd (omega (arith, none))

    no_bounds : (x t : List ℕ) (b : Option Interval) → length x ≡ 0 → option_and_then (λ bounds. offer_command x t (Some bounds)) b ≡ None
    no_bounds x t None none = refl
    no_bounds x t (Some b) none = nameless x t (Some b) none

    no_actuator : (x : List ℕ) (ws : List (List ℕ)) → length x ≡ 0 → offer_by x ws ≡ None
    no_actuator x [] none = nameless x [] None none
    no_actuator x (w ∷ []) none = nameless x [] None none
    no_actuator x (w ∷ t ∷ []) none = nameless x (if same_name w (codes "to") then t else []) None none
    no_actuator x (w ∷ t ∷ k ∷ []) none = either (same_name w (codes "to") && same_name k (codes "from")) None refl
    no_actuator x (w ∷ t ∷ k ∷ low ∷ ws) none =
        either (same_name w (codes "to") && same_name k (codes "from")) (bounded_offer_command x t low (word_behind (codes "to") ws))
        (no_bounds x t (bounds_of_words low (word_behind (codes "to") ws)) none)

-- no third word after the name
pub offer_short : (a rest : List ℕ) → length (first_word_of (behind_first_word (behind_first_word rest))) ≡ 0
    → offer_by a (words_of rest) ≡ offer_command a (word_behind (codes "to") (words_of rest)) None
offer_short a rest none =
    let behind = behind_first_word rest in
    by_word rest (λ ws. offer_by a ws ≡ offer_command a (word_behind (codes "to") ws) None) (λ no_word. refl)
    (λ some. by_word behind (λ ws. offer_by a (first_word_of rest ∷ ws) ≡ offer_command a (word_behind (codes "to") (first_word_of rest ∷ ws)) None) (λ no_word. refl)
    (λ second. rw (words_none (behind_first_word behind) none) refl))

-- a third word
pub offer_long : (a rest : List ℕ) → 0 < length (first_word_of (behind_first_word (behind_first_word rest)))
    → offer_by a (words_of rest) ≡ (if same_name (first_word_of rest) (codes "to") && same_name (first_word_of (behind_first_word (behind_first_word rest))) (codes "from")
    then offer_within a (first_word_of (behind_first_word rest)) (words_of (behind_first_word (behind_first_word (behind_first_word rest)))) else None)
offer_long a rest more =
    by_word rest (λ ws. offer_by a ws ≡ long) (λ none. offer_nobody a None ∙ sym (rw (nil_from_length (first_word_of rest) none) refl))
    (λ first. by_word behind (λ ws. offer_by a (first_word_of rest ∷ ws) ≡ long)
    (λ none. offer_nobody a None ∙ sym (either are_words (offer_within a (first_word_of behind) last) (rw (nil_from_length (first_word_of behind) none) (within_nobody last))))
    (λ second. rw (words_first third more) refl))
  where
    behind : List ℕ
    behind = behind_first_word rest

    third : List ℕ
    third = behind_first_word behind

    last : List (List ℕ)
    last = words_of (behind_first_word third)

    are_words : Bool
    are_words = same_name (first_word_of rest) (codes "to") && same_name (first_word_of third) (codes "from")

    long : Option GrantCommand
    long = if are_words then offer_within a (first_word_of behind) last else None

    within_nobody : (ws : List (List ℕ)) → offer_within a [] ws ≡ None
    within_nobody [] = refl
    within_nobody (low ∷ ws) = by (bounds_of_words low (word_behind (codes "to") ws))
      where
        by : (b : Option Interval) → option_and_then (λ bounds. offer_command a [] (Some bounds)) b ≡ None
        by None = refl
        by (Some b) = offer_nobody a (Some b)

-- "LO to HI"
pub offer_within_line : (a t rest : List ℕ) → offer_within a t (words_of rest) ≡ bounded_offer_command a t (first_word_of rest) (word_behind (codes "to") (words_of (behind_first_word rest)))
offer_within_line a t rest =
    by_word rest (λ ws. offer_within a t ws ≡ bounded_offer_command a t (first_word_of rest) (word_behind (codes "to") (words_of (behind_first_word rest))))
    (λ none. sym (rw (nil_from_length (first_word_of rest) none) refl))
    (λ some. refl)

pub unoffered : (rest : List ℕ) → grant_command_of_words (codes "unoffer" ∷ words_of rest) ≡ unoffer_command (first_word_of rest) (word_behind (codes "to") (words_of (behind_first_word rest)))
unoffered rest = of_line (codes "unoffer") (codes "to") unoffer_command (record {
  no_name = λ y. refl;
  no_word = unoffer_nobody;
  one = refl;
  two = λ x. refl;
  four = λ x w y. refl;
  other = refl;
}) rest

pub bound : (rest : List ℕ) → grant_command_of_words (codes "bind" ∷ words_of rest) ≡ bind_command (first_word_of rest) (word_behind (codes "from") (words_of (behind_first_word rest)))
bound rest = of_line (codes "bind") (codes "from") bind_command (record {
  no_name = λ y. refl;
  no_word = bind_nobody;
  one = refl;
  two = λ x. refl;
  four = λ x w y. refl;
  other = refl;
}) rest

-- "unbind" and one word
pub unbound : (rest : List ℕ) → length (first_word_of (behind_first_word rest)) ≡ 0 → grant_command_of_words (codes "unbind" ∷ words_of rest) ≡ unbind_command (first_word_of rest)
unbound rest none = by_word rest (λ ws. grant_command_of_words (codes "unbind" ∷ ws) ≡ unbind_command (first_word_of rest))
    (λ no_word. sym (nobody (first_word_of rest) no_word))
    (λ some. rw (words_none (behind_first_word rest) none) refl)
  where
    nobody : (s : List ℕ) → length s ≡ 0 → unbind_command s ≡ None
    nobody [] e = refl
    nobody (c ∷ cs) e = absurd (omega (arith, e))

-- "unbind" and more words
unbind_words : (x w : List ℕ) (ws : List (List ℕ)) → grant_command_of_words (codes "unbind" ∷ x ∷ w ∷ ws) ≡ None
unbind_words x w [] = refl
unbind_words x w (y ∷ []) = refl
unbind_words x w (y ∷ z ∷ zs) = no_more (codes "unbind") x w y z zs refl

pub unbind_more : (rest : List ℕ) → 0 < length (first_word_of (behind_first_word rest)) → grant_command_of_words (codes "unbind" ∷ words_of rest) ≡ None
unbind_more rest more = by_word rest (λ ws. grant_command_of_words (codes "unbind" ∷ ws) ≡ None)
    (λ none. refl)
    (λ some. rw (words_first (behind_first_word rest) more) (unbind_words (first_word_of rest) (first_word_of (behind_first_word rest)) (words_of (behind_first_word (behind_first_word rest)))))

-- "rows" and more words
rows_words : (x : List ℕ) (ws : List (List ℕ)) → grant_command_of_words (codes "rows" ∷ x ∷ ws) ≡ None
rows_words x [] = refl
rows_words x (w ∷ []) = refl
rows_words x (w ∷ y ∷ []) = refl
rows_words x (w ∷ y ∷ z ∷ zs) = no_more (codes "rows") x w y z zs refl

-- no word after "rows"
pub rows_by : (rest : List ℕ) → grant_command_of_words (codes "rows" ∷ words_of rest) ≡ then_some (length (first_word_of rest) == 0) Rows
rows_by rest = by_word rest (λ ws. grant_command_of_words (codes "rows" ∷ ws) ≡ then_some (length (first_word_of rest) == 0) Rows)
    (λ none. rw none refl)
    (λ some.
    let not_none : (length (first_word_of rest) == 0) ≡ false = grind (arith, nat_tests, some) in
    rw not_none (rows_words (first_word_of rest) (words_of (behind_first_word rest))))

-- no command about grants begins with another word
pub other_grants : (word behind : List ℕ)
    → (word ≡ codes "offer" → ⊥) → (word ≡ codes "unoffer" → ⊥) → (word ≡ codes "bind" → ⊥) → (word ≡ codes "unbind" → ⊥) → (word ≡ codes "rows" → ⊥)
    → grant_command_of_words (words_from word behind) ≡ None
other_grants [] behind no_offer no_unoffer no_bind no_unbind no_rows = refl
other_grants (c ∷ cs) behind no_offer no_unoffer no_bind no_unbind no_rows = by (words_of behind)
  where
    by : (ws : List (List ℕ)) → grant_command_of_words ((c ∷ cs) ∷ ws) ≡ None
    by [] = rw (not_same (c ∷ cs) (codes "rows") no_rows) refl
    by (x ∷ []) = rw (not_same (c ∷ cs) (codes "unbind") no_unbind) refl
    by (x ∷ w ∷ []) = refl
    by (x ∷ w ∷ y ∷ []) = rw (not_same (c ∷ cs) (codes "offer") no_offer, not_same (c ∷ cs) (codes "unoffer") no_unoffer, not_same (c ∷ cs) (codes "bind") no_bind) refl
    by (x ∷ w ∷ y ∷ z ∷ zs) = no_more (c ∷ cs) x w y z zs (not_same (c ∷ cs) (codes "offer") no_offer)

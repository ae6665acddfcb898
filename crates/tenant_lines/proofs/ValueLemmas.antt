-- What std's `parse` reads from a word is the word's value.
use Rattle.std.proofs.Common.{◌≡◌, ℕ, ◌-◌, ◌^◌, ◌<◌, ◌≤◌, ◌==◌, ◌≢◌, ◌&&◌, Bool, true, false, nat_le, if◌then◌else◌, ℤ, pos, neg_ℤ, List, [], ◌∷◌, ◌++◌, length, get_or, Option, Some, None, is_some, IsSomeAnd, Result, Ok, Err, refl, sym, ap, ◌∙◌, subst, append_assoc, append-nil, arith, rules, w64}
use Rattle.std.proofs.lemmas.Bool.{eqb-true}
use Rattle.std.proofs.lemmas.Bool.Decides.{nat_tests}
use Rattle.std.proofs.lemmas.List.{length-append}
use Rattle.std.proofs.lemmas.Str.Parse.{IsNumeralModel, numerals_by_value, parse_signed_plain, parse_signed_minus}
use Rattle.std.specs.List.{list_all}
use Rattle.std.specs.Option.{option_map}
use Rattle.std.specs.Result.{OkIff, result_ok}
use Rattle.std.specs.Str.Parse.{digits_value, ParsesSigned}
use Rattle.giotto_text.specs.Bytes.{is_digit}
use Rattle.tenant_lines.specs.Words.{digits_as, value_of_word, values_of_words, words_of, first_word_of, behind_first_word}
use Rattle.tenant_lines.proofs.cited.WordLemmas.{words_first, words_none}

-- the model of decimal digits that `parse` reads
decimal_digits : IsNumeralModel (λ ds. list_all is_digit ds ≡ true) (digits_value 10)
decimal_digits = numerals_by_value _ (search rules)

-- the value f of a number that is at most the bound
abbrev at_most : ℕ → (ℕ → ℤ) → ℕ → Option ℤ
at_most bound f n = if nat_le n bound then Some (f n) else None

digits_read : {E : Type 0} (cs : List ℕ) (r : Result ℤ E) (bound : ℕ) (f : ℕ → ℤ)
    → OkIff r ((list_all is_digit cs ≡ true) × (0 < length cs) × (digits_value 10 cs ≤ bound)) (f (digits_value 10 cs))
    → result_ok r ≡ digits_as (at_most bound f) cs
digits_read [] (Ok x) bound f h = absurd (omega (arith, h.0.1))
digits_read [] (Err e) bound f h = refl
digits_read (c ∷ cs) (Ok x) bound f h =
    let v = digits_value 10 (c ∷ cs) in
    let within : nat_le v bound ≡ true = grind (arith, nat_tests, h.0.2) in
    rw (h.0.0, within, h.1) refl
digits_read (c ∷ cs) (Err e) bound f h = by (list_all is_digit (c ∷ cs)) refl (nat_le (digits_value 10 (c ∷ cs)) bound) refl
  where
    by : (b : Bool) → list_all is_digit (c ∷ cs) ≡ b → (d : Bool) → nat_le (digits_value 10 (c ∷ cs)) bound ≡ d → None ≡ digits_as (at_most bound f) (c ∷ cs)
    by false is d within = rw is refl
    by true is false within = rw (is, within) refl
    by true is true within =
        let small : digits_value 10 (c ∷ cs) ≤ bound = grind (arith, nat_tests, within) in
        absurd (h (is, omega arith, small))

-- a number below 2 ^ 63 is at most 2 ^ 63 - 1
below : {E : Type 0} (cs : List ℕ) (r : Result ℤ E)
    → OkIff r ((list_all is_digit cs ≡ true) × (0 < length cs) × (digits_value 10 cs < 2 ^ 63)) (pos (digits_value 10 cs))
    → OkIff r ((list_all is_digit cs ≡ true) × (0 < length cs) × (digits_value 10 cs ≤ 2 ^ 63 - 1)) (pos (digits_value 10 cs))
below cs (Ok x) h = ((h.0.0, h.0.1, omega (arith, h.0.2)), h.1)
below cs (Err e) h = λ p. h (p.0, p.1, omega (arith, p.2))

-- a word that doesn't begin with a plus
pub value_parsed : {E : Type 0} (bs : List ℕ) (r : Result ℤ E) → get_or bs 0 0 ≢ 43 → ParsesSigned w64 10 bs r → result_ok r ≡ value_of_word bs
value_parsed [] r plain h = digits_read [] r (2 ^ 63 - 1) pos (below [] r (parse_signed_plain decimal_digits w64 [] r h plain (omega arith)))
value_parsed (c ∷ cs) r plain h = by (c == 45) refl
  where
    by : (b : Bool) → (c == 45) ≡ b → result_ok r ≡ value_of_word (c ∷ cs)
    by true minus = rw minus (digits_read cs r (2 ^ 63) (λ n. neg_ℤ (pos n)) (parse_signed_minus decimal_digits w64 (c ∷ cs) r h (eqb-true c 45 minus)))
    by false minus =
        let no_minus : c ≢ 45 = λ e. absurd (grind (arith, nat_tests, e, minus)) in
        rw minus (digits_read (c ∷ cs) r (2 ^ 63 - 1) pos (below (c ∷ cs) r (parse_signed_plain decimal_digits w64 (c ∷ cs) r h plain no_minus)))

-- these values before those of the words that follow
abbrev pub values_behind : List ℤ → Option (List ℤ) → Option (List ℤ)
values_behind vs o = option_map (λ zs. vs ++ zs) o

-- one more word
value_joins : (vs : List ℤ) (z : ℤ) (w : List ℕ) (ws : List (List ℕ)) → value_of_word w ≡ Some z
    → values_behind vs (values_of_words (w ∷ ws)) ≡ values_behind (vs ++ z ∷ []) (values_of_words ws)
value_joins vs z w ws is = by (values_of_words ws) refl
  where
    by : (o : Option (List ℤ)) → values_of_words ws ≡ o → values_behind vs (values_of_words (w ∷ ws)) ≡ values_behind (vs ++ z ∷ []) (values_of_words ws)
    by None e = rw (is, e) refl
    by (Some zs) e = rw (is, e) (ap Some (sym (append_assoc vs (z ∷ []) zs)))

pub values_more : (vs : List ℤ) (z : ℤ) (line : List ℕ) → 0 < length (first_word_of line) → value_of_word (first_word_of line) ≡ Some z
    → values_behind vs (values_of_words (words_of line)) ≡ values_behind (vs ++ z ∷ []) (values_of_words (words_of (behind_first_word line)))
values_more vs z line some is = rw (words_first line some) (value_joins vs z (first_word_of line) (words_of (behind_first_word line)) is)

pub values_end : (vs : List ℤ) (line : List ℕ) → length (first_word_of line) ≡ 0 → values_behind vs (values_of_words (words_of line)) ≡ Some vs
values_end vs line none = rw (words_none line none) (ap Some (append-nil vs))

pub values_fault : (vs : List ℤ) (line : List ℕ) → 0 < length (first_word_of line) → value_of_word (first_word_of line) ≡ None
    → values_behind vs (values_of_words (words_of line)) ≡ None
values_fault vs line some is = rw (words_first line some) (rw is refl)

-- if there is no word, all words are values
pub are_values_end : (line : List ℕ) → length (first_word_of line) ≡ 0 → is_some (values_of_words (words_of line)) ≡ true
are_values_end line none = rw (words_none line none) refl

-- all words are values if the first is one and the others are
by_first : (w : List ℕ) (ws : List (List ℕ)) → is_some (values_of_words (w ∷ ws)) ≡ (is_some (value_of_word w) && is_some (values_of_words ws))
by_first w ws = by (value_of_word w) refl (values_of_words ws) refl
  where
    by : (o : Option ℤ) → value_of_word w ≡ o → (p : Option (List ℤ)) → values_of_words ws ≡ p
        → is_some (values_of_words (w ∷ ws)) ≡ (is_some (value_of_word w) && is_some (values_of_words ws))
    by None e p f = rw e refl
    by (Some z) e None f = rw (e, f) refl
    by (Some z) e (Some zs) f = rw (e, f) refl

first_and_others : (line : List ℕ) (b : Bool) → 0 < length (first_word_of line) → is_some (value_of_word (first_word_of line)) ≡ b
    → is_some (values_of_words (words_of line)) ≡ (b && is_some (values_of_words (words_of (behind_first_word line))))
first_and_others line b some is =
    let rest = words_of (behind_first_word line) in
    rw (words_first line some) (by_first (first_word_of line) rest ∙ ap (λ (a : Bool). a && is_some (values_of_words rest)) is)

pub are_values_fault : (line : List ℕ) → 0 < length (first_word_of line) → is_some (value_of_word (first_word_of line)) ≡ false → is_some (values_of_words (words_of line)) ≡ false
are_values_fault line some is = first_and_others line false some is

pub are_values_more : (line : List ℕ) → 0 < length (first_word_of line) → is_some (value_of_word (first_word_of line)) ≡ true
    → is_some (values_of_words (words_of line)) ≡ is_some (values_of_words (words_of (behind_first_word line)))
are_values_more line some is = first_and_others line true some is

-- at least one word has at least one value
values_long : (w : List ℕ) (ws : List (List ℕ)) (zs : List ℤ) → values_of_words (w ∷ ws) ≡ Some zs → 0 < length zs
values_long w ws (z ∷ zs) is = omega arith
values_long w ws [] is = by (value_of_word w) refl (values_of_words ws) refl
  where
    by : (o : Option ℤ) → value_of_word w ≡ o → (p : Option (List ℤ)) → values_of_words ws ≡ p → 0 < 0
    by None e p f = let none : values_of_words (w ∷ ws) ≡ None = rw e refl in cc
    by (Some z) e None f = let none : values_of_words (w ∷ ws) ≡ None = rw (e, f) refl in cc
    by (Some z) e (Some ys) f = let some : values_of_words (w ∷ ws) ≡ Some (z ∷ ys) = rw (e, f) refl in cc

-- if the words from one on are values, after at least eight values: all words are values, and more than eight
pub all_values : (vs : List ℤ) (line rest : List ℕ) → 8 ≤ length vs → 0 < length (first_word_of rest)
    → values_behind vs (values_of_words (words_of rest)) ≡ values_of_words (words_of line) → is_some (values_of_words (words_of rest)) ≡ true
    → IsSomeAnd (values_of_words (words_of line)) (λ (values : List ℤ). 8 < length values)
all_values vs line rest full some so_far are = by (values_of_words (words_of rest)) refl so_far are
  where
    by : (o : Option (List ℤ)) → values_of_words (words_of rest) ≡ o → values_behind vs o ≡ values_of_words (words_of line) → is_some o ≡ true
        → IsSomeAnd (values_of_words (words_of line)) (λ (values : List ℤ). 8 < length values)
    by None e so are = cc
    by (Some zs) e so are =
        let long : 0 < length zs = values_long (first_word_of rest) (words_of (behind_first_word rest)) zs (sym (ap values_of_words (words_first rest some)) ∙ e) in
        let all_long : 8 < length (vs ++ zs) = omega (arith, full, long, length-append vs zs) in
        subst (λ (o : Option (List ℤ)). IsSomeAnd o (λ (values : List ℤ). 8 < length values)) so all_long

-- if one of them isn't a value, the line has no list of values
pub no_values : (vs : List ℤ) (line rest : List ℕ)
    → values_behind vs (values_of_words (words_of rest)) ≡ values_of_words (words_of line) → is_some (values_of_words (words_of rest)) ≡ false
    → values_of_words (words_of line) ≡ None
no_values vs line rest so_far are = by (values_of_words (words_of rest)) so_far are
  where
    by : (o : Option (List ℤ)) → values_behind vs o ≡ values_of_words (words_of line) → is_some o ≡ false → values_of_words (words_of line) ≡ None
    by None so are = sym so
    by (Some zs) so are = cc

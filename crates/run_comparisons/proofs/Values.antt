-- What std's `parse` reads from a word is the word's value.
use Rattle.std.proofs.Common.{◌≡◌, ℕ, ◌-◌, ◌^◌, ◌<◌, ◌≤◌, ◌==◌, ◌≢◌, Bool, true, false, nat_le, if◌then◌else◌, ℤ, pos, neg_ℤ, List, [], ◌∷◌, length, get_or, Option, Some, None, Result, Ok, Err, refl, arith, rules, w64}
use Rattle.std.proofs.lemmas.Bool.{eqb-true}
use Rattle.std.proofs.lemmas.Bool.Decides.{nat_tests}
use Rattle.std.proofs.lemmas.Str.Parse.{IsNumeralModel, numerals_by_value, parse_signed_plain, parse_signed_minus}
use Rattle.std.specs.List.{list_all}
use Rattle.std.specs.Result.{OkIff, result_ok}
use Rattle.std.specs.Str.Parse.{digits_value, ParsesSigned}
use Rattle.giotto_text.specs.Bytes.{is_digit}
use Rattle.tenant_lines.specs.Words.{digits_as, value_of_word}

-- the model of decimal digits that `parse` reads
decimal_digits : IsNumeralModel (λ ds. list_all is_digit ds ≡ true) (digits_value 10)
decimal_digits = numerals_by_value _ (search rules)

-- the value f of a number that is at most the bound
abbrev at_most : ℕ → (ℕ → ℤ) → ℕ → Option ℤ
at_most bound f n = if nat_le n bound then Some (f n) else None

digits_read : {E : Type 0} (cs : List ℕ) (r : Result ℤ E) (bound : ℕ) (f : ℕ → ℤ)
    → OkIff r ((list_all is_digit cs ≡ true) × (0 < length cs) × (digits_value 10 cs ≤ bound)) (f (digits_value 10 cs))
    → result_ok r ≡ digits_as (at_most bound f) cs
digits_read [] (Ok x) bound f h = absurd (omega (arith, h.0.1))
digits_read [] (Err e) bound f h = refl
digits_read (c ∷ cs) (Ok x) bound f h =
    let v = digits_value 10 (c ∷ cs) in
    let within : nat_le v bound ≡ true = grind (arith, nat_tests, h.0.2) in
    rw (h.0.0, within, h.1) refl
digits_read (c ∷ cs) (Err e) bound f h = by (list_all is_digit (c ∷ cs)) refl (nat_le (digits_value 10 (c ∷ cs)) bound) refl
  where
    by : (b : Bool) → list_all is_digit (c ∷ cs) ≡ b → (d : Bool) → nat_le (digits_value 10 (c ∷ cs)) bound ≡ d → None ≡ digits_as (at_most bound f) (c ∷ cs)
    by false is d within = rw is refl
    by true is false within = rw (is, within) refl
    by true is true within =
        let small : digits_value 10 (c ∷ cs) ≤ bound = grind (arith, nat_tests, within) in
        absurd (h (is, omega arith, small))

-- a number below 2 ^ 63 is at most 2 ^ 63 - 1
below : {E : Type 0} (cs : List ℕ) (r : Result ℤ E)
    → OkIff r ((list_all is_digit cs ≡ true) × (0 < length cs) × (digits_value 10 cs < 2 ^ 63)) (pos (digits_value 10 cs))
    → OkIff r ((list_all is_digit cs ≡ true) × (0 < length cs) × (digits_value 10 cs ≤ 2 ^ 63 - 1)) (pos (digits_value 10 cs))
below cs (Ok x) h = ((h.0.0, h.0.1, omega (arith, h.0.2)), h.1)
below cs (Err e) h = λ p. h (p.0, p.1, omega (arith, p.2))

-- a word that doesn't begin with a plus
pub value_parsed : {E : Type 0} (bs : List ℕ) (r : Result ℤ E) → get_or bs 0 0 ≢ 43 → ParsesSigned w64 10 bs r → result_ok r ≡ value_of_word bs
value_parsed [] r plain h = digits_read [] r (2 ^ 63 - 1) pos (below [] r (parse_signed_plain decimal_digits w64 [] r h plain (omega arith)))
value_parsed (c ∷ cs) r plain h = by (c == 45) refl
  where
    by : (b : Bool) → (c == 45) ≡ b → result_ok r ≡ value_of_word (c ∷ cs)
    by true minus = rw minus (digits_read cs r (2 ^ 63) (λ n. neg_ℤ (pos n)) (parse_signed_minus decimal_digits w64 (c ∷ cs) r h (eqb-true c 45 minus)))
    by false minus =
        let no_minus : c ≢ 45 = λ e. absurd (grind (arith, nat_tests, e, minus)) in
        rw minus (digits_read (c ∷ cs) r (2 ^ 63 - 1) pos (below (c ∷ cs) r (parse_signed_plain decimal_digits w64 (c ∷ cs) r h plain no_minus)))

-- The words of a line that is written with one blank between its words.
use Rattle.std.proofs.Common.{◌≡◌, ℕ, suc, ◌+◌, ◌-◌, ◌^◌, ◌<◌, ◌≤◌, ◌==◌, ◌&&◌, nat_le, Bool, true, false, not, ℤ, pos, negsuc, neg_ℤ, List, [], ◌∷◌, ◌++◌, length, take, drop, Some, refl, sym, ap, ◌∙◌, arith, rules}
use Rattle.std.proofs.Math.Seq.{take-append_seam, drop-append-add}
use Rattle.std.proofs.lemmas.Bool.{and_parts}
use Rattle.std.proofs.lemmas.Bool.Decides.{nat_tests}
use Rattle.std.proofs.lemmas.Fmt.{digits_decimal, digits_value-decimal, decimal_is_IsNumeral}
use Rattle.std.proofs.lemmas.List.Folds.{list_all-append}
use Rattle.std.proofs.lemmas.Str.Parse.{IsNumeralModel, numerals_by_value}
use Rattle.std.specs.Fmt.{decimal, signed_decimal}
use Rattle.std.specs.List.{list_all, before_first, after_first, position_or_len}
use Rattle.std.specs.Str.Parse.{digits_value}
use Rattle.rig_history.specs.Commands.{is_value}
use Rattle.rig_model.specs.lines.Words.{is_blank_of_line, is_dot, is_word_byte, joined_to_first, value_of_word, words_of}
use Rattle.rig_model.specs.text.Bytes.{is_digit, is_letter, is_name, is_name_byte}

no_blank : (c : ℕ) → is_word_byte c ≡ true → is_blank_of_line c ≡ false
no_blank c e = by (is_blank_of_line c) e
  where
    by : (b : Bool) → not b ≡ true → b ≡ false
    by false f = refl
    by true f = absurd (cc)

-- a word: at least one byte, and no blank
abbrev pub is_word : List ℕ → Bool
is_word [] = false
is_word (c ∷ cs) = list_all is_word_byte (c ∷ cs)

-- a word alone
word_from : (c : ℕ) (cs : List ℕ) → is_blank_of_line c ≡ false → list_all is_word_byte cs ≡ true → words_of (c ∷ cs) ≡ (c ∷ cs) ∷ []
word_from c [] first all = rw first refl
word_from c (d ∷ ds) first all =
    let both = and_parts (is_word_byte d) (list_all is_word_byte ds) all in
    let next = no_blank d both.0 in
    rw (first, next) (ap (joined_to_first c) (sym (rw next refl) ∙ word_from d ds next both.1))

pub word_alone : (w : List ℕ) → is_word w ≡ true → words_of w ≡ w ∷ []
word_alone [] e = absurd (cc)
word_alone (c ∷ cs) e = let both = and_parts (is_word_byte c) (list_all is_word_byte cs) e in word_from c cs (no_blank c both.0) both.1

-- a word, a blank and more
word_before : (c : ℕ) (cs rest : List ℕ) → is_blank_of_line c ≡ false → list_all is_word_byte cs ≡ true → words_of (c ∷ (cs ++ 32 ∷ rest)) ≡ (c ∷ cs) ∷ words_of rest
word_before c [] rest first all = rw first refl
word_before c (d ∷ ds) rest first all =
    let both = and_parts (is_word_byte d) (list_all is_word_byte ds) all in
    let next = no_blank d both.0 in
    rw (first, next) (ap (joined_to_first c) (sym (rw next refl) ∙ word_before d ds rest next both.1))

pub word_on : (w rest : List ℕ) → is_word w ≡ true → words_of (w ++ 32 ∷ rest) ≡ w ∷ words_of rest
word_on [] rest e = absurd (cc)
word_on (c ∷ cs) rest e = let both = and_parts (is_word_byte c) (list_all is_word_byte cs) e in word_before c cs rest (no_blank c both.0) both.1

-- a name is a word
byte_in_word : (c : ℕ) → is_name_byte c ≡ true → is_word_byte c ≡ true
byte_in_word c e = grind (arith, nat_tests, e)

letter_in_name : (c : ℕ) → is_letter c ≡ true → is_name_byte c ≡ true
letter_in_name c e = rw e refl

bytes_in_words : (cs : List ℕ) → list_all is_name_byte cs ≡ true → list_all is_word_byte cs ≡ true
bytes_in_words [] e = refl
bytes_in_words (c ∷ cs) e = let both = and_parts (is_name_byte c) (list_all is_name_byte cs) e in rw (byte_in_word c both.0, bytes_in_words cs both.1) refl

pub name_bytes : (name : List ℕ) → is_name name ≡ true → list_all is_name_byte name ≡ true
name_bytes [] e = refl
name_bytes (c ∷ cs) e =
    let all = and_parts (is_letter c && list_all is_name_byte cs) (nat_le (length (c ∷ cs)) 32) e in
    let bytes = and_parts (is_letter c) (list_all is_name_byte cs) all.0 in
    rw (letter_in_name c bytes.0, bytes.1) refl

pub name_is_word : (name : List ℕ) → is_name name ≡ true → is_word name ≡ true
name_is_word [] e = absurd (cc)
name_is_word (c ∷ cs) e = bytes_in_words (c ∷ cs) (name_bytes (c ∷ cs) e)

-- two names with a dot between them
no_dot : (c : ℕ) → is_name_byte c ≡ true → is_dot c ≡ false
no_dot c e = grind (arith, nat_tests, e)

dot_after : (xs ys : List ℕ) → list_all is_name_byte xs ≡ true → position_or_len is_dot (xs ++ 46 ∷ ys) ≡ length xs
dot_after [] ys e = refl
dot_after (c ∷ cs) ys e = let both = and_parts (is_name_byte c) (list_all is_name_byte cs) e in grind (arith, no_dot c both.0, dot_after cs ys both.1)

pub before_dot : (xs ys : List ℕ) → is_name xs ≡ true → before_first is_dot (xs ++ 46 ∷ ys) ≡ xs
before_dot xs ys e = ap (λ n. take n (xs ++ 46 ∷ ys)) (dot_after xs ys (name_bytes xs e)) ∙ take-append_seam xs (46 ∷ ys)

pub after_dot : (xs ys : List ℕ) → is_name xs ≡ true → after_first is_dot (xs ++ 46 ∷ ys) ≡ ys
after_dot xs ys e = ap (λ n. drop (n + 1) (xs ++ 46 ∷ ys)) (dot_after xs ys (name_bytes xs e)) ∙ drop-append-add xs (46 ∷ ys) 1

both_bytes : (xs ys : List ℕ) → list_all is_word_byte xs ≡ true → list_all is_word_byte ys ≡ true → list_all is_word_byte (xs ++ 46 ∷ ys) ≡ true
both_bytes xs ys e f = list_all-append is_word_byte xs (46 ∷ ys) ∙ rw (e, f) refl

pub dotted_is_word : (xs ys : List ℕ) → is_name xs ≡ true → is_name ys ≡ true → is_word (xs ++ 46 ∷ ys) ≡ true
dotted_is_word [] ys e f = absurd (cc)
dotted_is_word (c ∷ cs) ys e f = both_bytes (c ∷ cs) ys (bytes_in_words (c ∷ cs) (name_bytes (c ∷ cs) e)) (bytes_in_words ys (name_bytes ys f))

dot_in_none : (xs ys : List ℕ) → list_all is_name_byte (xs ++ 46 ∷ ys) ≡ false
dot_in_none [] ys = refl
dot_in_none (c ∷ cs) ys = by (is_name_byte c) (dot_in_none cs ys)
  where
    by : (b : Bool) → list_all is_name_byte (cs ++ 46 ∷ ys) ≡ false → (b && list_all is_name_byte (cs ++ 46 ∷ ys)) ≡ false
    by true rest = rest
    by false rest = refl

pub dotted_is_no_name : (xs ys : List ℕ) → is_name (xs ++ 46 ∷ ys) ≡ false
dotted_is_no_name xs ys = by (is_name (xs ++ 46 ∷ ys)) refl
  where
    by : (b : Bool) → is_name (xs ++ 46 ∷ ys) ≡ b → b ≡ false
    by false e = refl
    by true e = let all = name_bytes (xs ++ 46 ∷ ys) e in let none = dot_in_none xs ys in absurd (cc)

-- a value is a word, and read as itself
decimal_digits : IsNumeralModel (λ ds. list_all is_digit ds ≡ true) (digits_value 10)
decimal_digits = numerals_by_value _ (search rules)

digit_in_word : (c : ℕ) → is_digit c ≡ true → is_word_byte c ≡ true
digit_in_word c e = grind (arith, nat_tests, e)

digits_in_words : (cs : List ℕ) → list_all is_digit cs ≡ true → list_all is_word_byte cs ≡ true
digits_in_words [] e = refl
digits_in_words (c ∷ cs) e = let both = and_parts (is_digit c) (list_all is_digit cs) e in rw (digit_in_word c both.0, digits_in_words cs both.1) refl

digits_are_word : (cs : List ℕ) → list_all is_digit cs ≡ true → 0 < length cs → is_word cs ≡ true
digits_are_word [] e some = absurd (omega arith)
digits_are_word (c ∷ cs) e some = digits_in_words (c ∷ cs) e

no_minus : (c : ℕ) → is_digit c ≡ true → (c == 45) ≡ false
no_minus c e = grind (arith, nat_tests, e)

plain_read : (ds : List ℕ) → list_all is_digit ds ≡ true → 0 < length ds → digits_value 10 ds < 2 ^ 63 → value_of_word ds ≡ Some (pos (digits_value 10 ds))
plain_read [] all some small = absurd (omega (arith, some))
plain_read (c ∷ cs) all some small =
    let both = and_parts (is_digit c) (list_all is_digit cs) all in
    let within : nat_le (digits_value 10 (c ∷ cs)) (2 ^ 63 - 1) ≡ true = grind (arith, nat_tests, small) in
    rw (no_minus c both.0, all, within) refl

minus_read : (ds : List ℕ) → list_all is_digit ds ≡ true → 0 < length ds → digits_value 10 ds ≤ 2 ^ 63 → value_of_word (45 ∷ ds) ≡ Some (neg_ℤ (pos (digits_value 10 ds)))
minus_read [] all some small = absurd (omega (arith, some))
minus_read (c ∷ cs) all some small =
    let within : nat_le (digits_value 10 (c ∷ cs)) (2 ^ 63) ≡ true = grind (arith, nat_tests, small) in
    rw (all, within) refl

module _ (n : ℕ) (small : n < 2 ^ 64) where
  written : list_all is_digit (decimal n) ≡ true
  written = digits_decimal decimal_digits n small

  worth : digits_value 10 (decimal n) ≡ n
  worth = digits_value-decimal decimal_digits n small

  some_digit : 0 < length (decimal n)
  some_digit = (decimal_is_IsNumeral n small).0.0

pub value_is_word : (v : ℤ) → is_value v ≡ true → is_word (signed_decimal v) ≡ true
value_is_word (pos n) e = let small : n < 2 ^ 64 = grind (arith, nat_tests, e) in digits_are_word (decimal n) (written n small) (some_digit n small)
value_is_word (negsuc n) e = let small : suc n < 2 ^ 64 = grind (arith, nat_tests, e) in digits_in_words (decimal (suc n)) (written (suc n) small)

pub value_read : (v : ℤ) → is_value v ≡ true → value_of_word (signed_decimal v) ≡ Some v
value_read (pos n) e =
    let below : n < 2 ^ 63 = grind (arith, nat_tests, e) in
    let small : n < 2 ^ 64 = omega (arith, below) in
    let is = worth n small in
    plain_read (decimal n) (written n small) (some_digit n small) (omega (arith, is, below)) ∙ ap (λ m. Some (pos m)) is
value_read (negsuc n) e =
    let below : n < 2 ^ 63 = grind (arith, nat_tests, e) in
    let small : suc n < 2 ^ 64 = omega (arith, below) in
    let is = worth (suc n) small in
    minus_read (decimal (suc n)) (written (suc n) small) (some_digit (suc n) small) (omega (arith, is, below)) ∙ ap (λ m. Some (neg_ℤ (pos m))) is

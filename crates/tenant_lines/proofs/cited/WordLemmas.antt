-- The words of a line, by its first word and what follows it; and where a line may be cut.
use Rattle.std.proofs.Common.{◌≡◌, ℕ, suc, ◌+◌, ◌<◌, ◌≤◌, Bool, true, false, not, cond, List, [], ◌∷◌, length, get_or, drop, refl, sym, ◌∙◌, ap, arith, length-drop}
use Rattle.std.proofs.lemmas.List.Sums.{prefix_len_stops}
use Rattle.std.specs.List.{prefix_len, take_while}
use Rattle.std.specs.Str.{IsCharBoundary, IsUtf8}
use Rattle.std.proofs.lemmas.Bool.Decides.{nat_tests}
use Rattle.std.proofs.lemmas.List.{at_drop_more, at_drop_all, length-take, get_or-drop}
use Rattle.std.proofs.lemmas.Str.{IsCharBoundary-start, IsCharBoundary-after_ascii, IsCharBoundary-from_rest, IsUtf8-drop}
use Rattle.tenant_lines.specs.Words.{is_blank_of_line, is_word_byte, joined_to_first, words_of, from_first_word, first_word_of, behind_first_word}

pub prefix_more : (p : ℕ → Bool) (xs : List ℕ) (i : ℕ) → i < length xs → prefix_len p (drop i xs) ≡ cond (p (get_or xs i 0)) (1 + prefix_len p (drop (i + 1) xs)) 0
prefix_more p xs i lt = at_drop_more (prefix_len p) xs i 0 lt

pub prefix_end : (p : ℕ → Bool) (xs : List ℕ) (i : ℕ) → length xs ≤ i → prefix_len p (drop i xs) ≡ 0
prefix_end p xs i le = at_drop_all (prefix_len p) xs i le

-- a blank is one byte
blank_is_ascii : (c : ℕ) → is_blank_of_line c ≡ true → c < 128
blank_is_ascii c e = grind (arith, nat_tests)

-- a text may be cut after the blanks at its front
pub boundary_behind_blanks : (bs : List ℕ) → IsUtf8 bs → IsCharBoundary bs (prefix_len is_blank_of_line bs)
boundary_behind_blanks [] utf8 = IsCharBoundary-start [] utf8
boundary_behind_blanks (c ∷ cs) utf8 = by (is_blank_of_line c) refl (boundary_behind_blanks cs)
  where
    by : (b : Bool) → is_blank_of_line c ≡ b → (IsUtf8 cs → IsCharBoundary cs (prefix_len is_blank_of_line cs)) → IsCharBoundary (c ∷ cs) (cond b (1 + prefix_len is_blank_of_line cs) 0)
    by false e rest = IsCharBoundary-start (c ∷ cs) utf8
    by true e rest =
        let behind : IsCharBoundary (c ∷ cs) 1 = IsCharBoundary-after_ascii (c ∷ cs) 0 utf8 (omega arith) (blank_is_ascii c e) in
        IsCharBoundary-from_rest (c ∷ cs) 1 (prefix_len is_blank_of_line cs) behind.0 (rest (IsUtf8-drop (c ∷ cs) 1 utf8 behind))

-- and before the first blank
pub boundary_at_blank : (bs : List ℕ) → IsCharBoundary bs (prefix_len is_word_byte bs)
boundary_at_blank [] = (omega arith, λ lt. absurd (omega arith))
boundary_at_blank (c ∷ cs) = by (is_blank_of_line c) refl (boundary_at_blank cs)
  where
    by : (b : Bool) → is_blank_of_line c ≡ b → IsCharBoundary cs (prefix_len is_word_byte cs) → IsCharBoundary (c ∷ cs) (cond (not b) (1 + prefix_len is_word_byte cs) 0)
    by true e rest = (omega arith, λ lt le. let small = blank_is_ascii c e in absurd (omega arith))
    by false e rest =
        let n : ℕ = prefix_len is_word_byte cs in
        let e : 1 + n ≡ suc n = omega arith in
        rw e (omega (arith, rest.0), λ lt le. rest.1 (omega arith) le)

-- a line that begins with a word: the word, and the words of what follows it
words_at_word : (c : ℕ) (cs : List ℕ) → is_blank_of_line c ≡ false
    → words_of (c ∷ cs) ≡ (c ∷ take_while is_word_byte cs) ∷ words_of (drop (prefix_len is_word_byte cs) cs)
words_at_word c [] e = rw e refl
words_at_word c (d ∷ ds) e = by (is_blank_of_line d) refl (words_at_word d ds)
  where
    by : (b : Bool) → is_blank_of_line d ≡ b
        → (is_blank_of_line d ≡ false → words_of (d ∷ ds) ≡ (d ∷ take_while is_word_byte ds) ∷ words_of (drop (prefix_len is_word_byte ds) ds))
        → words_of (c ∷ d ∷ ds) ≡ (c ∷ take_while is_word_byte (d ∷ ds)) ∷ words_of (drop (prefix_len is_word_byte (d ∷ ds)) (d ∷ ds))
    by true f rest = rw (e, f) (rw f refl)
    by false f rest =
        let n : ℕ = prefix_len is_word_byte ds in
        let one : 1 + n ≡ suc n = omega arith in
        rw (e, f) (ap (joined_to_first c) (sym (rw f refl) ∙ rest f) ∙ rw one refl)

-- blanks at the front of a line mean nothing
from_blank : (c : ℕ) (cs : List ℕ) → is_blank_of_line c ≡ true → from_first_word (c ∷ cs) ≡ from_first_word cs
from_blank c cs e = let one : 1 + prefix_len is_blank_of_line cs ≡ suc (prefix_len is_blank_of_line cs) = omega arith in rw (e, one) refl

from_word : (c : ℕ) (cs : List ℕ) → is_blank_of_line c ≡ false → from_first_word (c ∷ cs) ≡ c ∷ cs
from_word c cs e = rw e refl

-- the words of a line: its first word, and those of what follows it
pub words_first : (line : List ℕ) → 0 < length (first_word_of line) → words_of line ≡ first_word_of line ∷ words_of (behind_first_word line)
words_first [] some = absurd (omega arith)
words_first (c ∷ cs) some = by (is_blank_of_line c) refl (words_first cs)
  where
    by : (b : Bool) → is_blank_of_line c ≡ b
        → (0 < length (first_word_of cs) → words_of cs ≡ first_word_of cs ∷ words_of (behind_first_word cs))
        → words_of (c ∷ cs) ≡ first_word_of (c ∷ cs) ∷ words_of (behind_first_word (c ∷ cs))
    by true e rest =
        let same = from_blank c cs e in
        let some : 0 < length (take_while is_word_byte (from_first_word cs)) = rw same at some in
        let skipped : words_of (c ∷ cs) ≡ words_of cs = rw e refl in
        rw (skipped, same) (rest some)
    by false e rest =
        let one : 1 + prefix_len is_word_byte cs ≡ suc (prefix_len is_word_byte cs) = omega arith in
        words_at_word c cs e ∙ sym (rw (from_word c cs e) (rw (e, one) refl))

-- and none if it has no first word
pub words_none : (line : List ℕ) → length (first_word_of line) ≡ 0 → words_of line ≡ []
words_none [] none = refl
words_none (c ∷ cs) none = by (is_blank_of_line c) refl (words_none cs)
  where
    by : (b : Bool) → is_blank_of_line c ≡ b → (length (first_word_of cs) ≡ 0 → words_of cs ≡ []) → words_of (c ∷ cs) ≡ []
    by true e rest =
        let none : length (take_while is_word_byte (from_first_word cs)) ≡ 0 = rw (from_blank c cs e) at none in
        let skipped : words_of (c ∷ cs) ≡ words_of cs = rw e refl in
        skipped ∙ rest none
    by false e rest =
        let one : 1 + prefix_len is_word_byte cs ≡ suc (prefix_len is_word_byte cs) = omega arith in
        let word : length (take_while is_word_byte (c ∷ cs)) ≡ 0 = rw (from_word c cs e) at none in
        let some : suc (length (take_while is_word_byte cs)) ≡ 0 = rw (e, one) at word in
        absurd (omega (arith, some))

-- what follows a word is shorter than the line
pub behind_shorter : (line : List ℕ) → 0 < length (first_word_of line) → length (behind_first_word line) < length line
behind_shorter line some =
    let rest = from_first_word line in
    let n = prefix_len is_word_byte rest in
    omega (arith, some, length-take n rest, length-drop n rest, length-drop (prefix_len is_blank_of_line line) line)

-- and begins with a blank
pub blank_behind : (line : List ℕ) → 0 < length (behind_first_word line) → is_blank_of_line (get_or (behind_first_word line) 0 0) ≡ true
blank_behind line some =
    let rest = from_first_word line in
    let n = prefix_len is_word_byte rest in
    let stops : is_word_byte (get_or rest n 0) ≡ false = prefix_len_stops is_word_byte rest 0 (omega (arith, some, length-drop n rest)) in
    rw get_or-drop (grind (arith, stops))

-- a text may be cut after that blank
pub boundary_behind_blank : (line bs : List ℕ) → IsUtf8 bs → bs ≡ behind_first_word line → 0 < length bs → IsCharBoundary bs 1
boundary_behind_blank line bs utf8 is some =
    let blank : is_blank_of_line (get_or bs 0 0) ≡ true = rw is (blank_behind line (rw is at some)) in
    IsCharBoundary-after_ascii bs 0 utf8 some (blank_is_ascii _ blank)

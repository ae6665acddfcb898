-- The line of a text is UTF-8: a character outside of comments stays whole, and the bytes of a character in a comment become
-- blanks.
use Rattle.std.proofs.Common.{◌≡◌, ℕ, suc, ◌<◌, ◌≤◌, Bool, true, false, ◌||◌, cond, List, [], ◌∷◌, ◌++◌, map, length, get_or, IsUtf8, inl, inr, refl, sym, ap, subst, arith, append-nil}
use Rattle.std.proofs.lemmas.Bool.{cases_lt}
use Rattle.std.proofs.lemmas.Bool.Decides.{nat_tests}
use Rattle.std.proofs.lemmas.Str.{IsUtf8-append, IsUtf8-nil, IsUtf8-encode, encode_ascii, inside_one}
use Rattle.std.proofs.lemmas.Bool.{and_parts}
use lib.Utf8.{scalar, scalars, encode, encodes, low_scalar}
use Rattle.giotto_reports.specs.Comments.{is_line_end, begins_comment, blank, one_line}
use Rattle.giotto_reports.proofs.Commented.{from, from-line_end, from-other}

ascii_then : (x : ℕ) (xs : List ℕ) → x < 128 → IsUtf8 xs → IsUtf8 (x ∷ xs)
ascii_then x xs small u = IsUtf8-append (x ∷ []) xs (subst IsUtf8 (encode_ascii x small) (IsUtf8-encode x (low_scalar x (omega arith)))) u

blanks_utf8 : (xs ys : List ℕ) → IsUtf8 ys → IsUtf8 (map (λ _. blank) xs ++ ys)
blanks_utf8 [] ys u = u
blanks_utf8 (x ∷ xs) ys u = ascii_then 32 _ (omega arith) (blanks_utf8 xs ys u)

AreHigh : List ℕ → Type 0
AreHigh xs = (k : ℕ) → k < length xs → 128 ≤ get_or xs k 0

-- a byte above 127 is not a line end and doesn't begin a comment
high_is_other : (x : ℕ) → 128 ≤ x → is_line_end x ≡ false
high_is_other x high = grind (arith, nat_tests)

high_begins_none : (x : ℕ) (xs : List ℕ) → 128 ≤ x → begins_comment (x ∷ xs) ≡ false
high_begins_none x xs high = grind (arith, nat_tests)

-- such bytes are blanked together, or stay together
from-high : (b : Bool) (xs rest : List ℕ) → AreHigh xs → from b (xs ++ rest) ≡ cond b (map (λ _. blank) xs) xs ++ from b rest
unfolding AreHigh
from-high true [] rest h = refl
from-high false [] rest h = refl
from-high true (x ∷ xs) rest h =
    rw (high_is_other x (h 0 (omega arith))) (ap (λ l. blank ∷ l) (from-high true xs rest (λ k below. h (suc k) (omega arith))))
from-high false (x ∷ xs) rest h =
    rw (high_is_other x (h 0 (omega arith)), high_begins_none x (xs ++ rest) (h 0 (omega arith)))
    (ap (λ l. x ∷ l) (from-high false xs rest (λ k below. h (suc k) (omega arith))))

encode_high : (c : ℕ) → 128 ≤ c → AreHigh (encode c)
unfolding AreHigh
encode_high c big k below = elim (cases_lt (get_or (encode c) k 0) 128) [
  | inl low ↦ absurd (omega (arith, inside_one c [] (encode c) k (sym (append-nil _)) below low))
  | inr h ↦ h
]

-- if what follows a character is UTF-8, inside and outside of a comment, then so is the whole with the character
one_char : (b : Bool) (c : ℕ) (rest : List ℕ) → scalar c ≡ true → ((b : Bool) → IsUtf8 (from b rest)) → IsUtf8 (from b (encode c ++ rest))
one_char b c rest ok more = elim (cases_lt c 128) [ inl small ↦ rw (encode_ascii c small) (low (is_line_end c) refl small) | inr big ↦ high b big ]
  where
    stays : (is : Bool) → c < 128 → cond is blank c < 128
    stays true small = omega arith
    stays false small = small

    low : (ends : Bool) → is_line_end c ≡ ends → c < 128 → IsUtf8 (from b (c ∷ rest))
    low true e small = subst IsUtf8 (sym (from-line_end b c rest e)) (ascii_then 32 _ (omega arith) (more false))
    low false e small =
        let is : Bool = b || begins_comment (c ∷ rest) in
        subst IsUtf8 (sym (from-other b c rest e)) (ascii_then _ _ (stays is small) (more is))

    high : (b : Bool) → 128 ≤ c → IsUtf8 (from b (encode c ++ rest))
    high true big = subst IsUtf8 (sym (from-high true (encode c) rest (encode_high c big))) (blanks_utf8 (encode c) _ (more true))
    high false big =
        subst IsUtf8 (sym (from-high false (encode c) rest (encode_high c big))) (IsUtf8-append (encode c) _ (IsUtf8-encode c ok) (more false))

from-utf8 : (cs : List ℕ) → scalars cs ≡ true → (b : Bool) → IsUtf8 (from b (encodes cs))
from-utf8 [] e true = IsUtf8-nil
from-utf8 [] e false = IsUtf8-nil
from-utf8 (c ∷ cs) e b = let parts = and_parts _ _ e in one_char b c (encodes cs) parts.0 (from-utf8 cs parts.1)

pub line_is_text : (text : List ℕ) → IsUtf8 text → IsUtf8 (one_line text)
line_is_text text utf8 = subst (λ t. IsUtf8 (one_line t)) utf8.1.1 (from-utf8 utf8.0 utf8.1.0 false)

-- Bytes that are compared one by one.
use Rattle.std.proofs.Common.{◌≡◌, ℕ, zero, suc, ◌+◌, ◌<◌, ◌≤◌, Bool, true, false, ◌&&◌, nat_eq, List, [], ◌∷◌, length, get_or, drop, refl, ap, ◌∙◌, arith}
use Rattle.std.proofs.lemmas.List.{drop_all}
use Rattle.std.specs.Cmp.Lexicographic.{pointwise}

-- the bytes from a place on: the byte there and those after it
pub same_at : (xs ys : List ℕ) (i : ℕ) → i < length xs → i < length ys
    → pointwise nat_eq (drop i xs) (drop i ys) ≡ (nat_eq (get_or xs i 0) (get_or ys i 0) && pointwise nat_eq (drop (i + 1) xs) (drop (i + 1) ys))
same_at [] ys i lt less = absurd (omega arith)
same_at (x ∷ xs) [] i lt less = absurd (omega arith)
same_at (x ∷ xs) (y ∷ ys) zero lt less = refl
same_at (x ∷ xs) (y ∷ ys) (suc i) lt less =
    let next : i + 1 ≡ suc i = omega arith in
    let after : suc i + 1 ≡ suc (suc i) = omega arith in
    same_at xs ys i (omega arith) (omega arith) ∙ rw (next, after) refl

-- no byte is left of either
pub none_left : (xs ys : List ℕ) (i : ℕ) → length xs ≤ i → length ys ≤ i → pointwise nat_eq (drop i xs) (drop i ys) ≡ true
none_left xs ys i le less = rw (drop_all i xs le, drop_all i ys less) refl

-- lists of different lengths differ
pub other_lengths : (xs ys : List ℕ) → (length xs ≡ length ys → ⊥) → pointwise nat_eq xs ys ≡ false
other_lengths [] [] e = absurd (e refl)
other_lengths [] (y ∷ ys) e = refl
other_lengths (x ∷ xs) [] e = refl
other_lengths (x ∷ xs) (y ∷ ys) e = by (nat_eq x y) (other_lengths xs ys (λ is. e (ap suc is)))
  where
    by : (b : Bool) → pointwise nat_eq xs ys ≡ false → (b && pointwise nat_eq xs ys) ≡ false
    by true rest = rest
    by false rest = refl

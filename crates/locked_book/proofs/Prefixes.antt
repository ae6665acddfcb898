-- Two beginnings of one list.
use Rattle.std.proofs.Common.{◌≡◌, ◌≤◌, List, [], ◌∷◌, length, refl, arith}
use mathlib.Core.List.{IsPrefix}

-- the longer one begins with the shorter one
pub shorter_begins : {A : Type 0} (xs ys all : List A) → IsPrefix xs all → IsPrefix ys all → length xs ≤ length ys → IsPrefix xs ys
shorter_begins [] ys all p q le = (ys, refl)
shorter_begins (x ∷ xs) [] all p q le = absurd (omega arith)
shorter_begins (x ∷ xs) (y ∷ ys) [] p q le = absurd (cc p.1)
shorter_begins (x ∷ xs) (y ∷ ys) (z ∷ all) p q le =
    let first : x ≡ y = cc (p.1, q.1) in
    let behind = shorter_begins xs ys all (p.0, cc p.1) (q.0, cc q.1) (omega arith) in
    (behind.0, cc (first, behind.1))

-- a beginning as long as the list is the list
pub as_long_is_all : {A : Type 0} (xs all : List A) → IsPrefix xs all → length all ≤ length xs → xs ≡ all
as_long_is_all [] [] p le = refl
as_long_is_all [] (z ∷ all) p le = absurd (omega arith)
as_long_is_all (x ∷ xs) [] p le = absurd (cc p.1)
as_long_is_all (x ∷ xs) (z ∷ all) p le =
    let behind = as_long_is_all xs all (p.0, cc p.1) (omega arith) in cc (p.1, behind)

-- Numbers that are written at slots, one after the other.
use Rattle.std.proofs.Common.{◌≡◌, ℕ, zero, suc, ◌+◌, ◌<◌, ◌≤◌, min, ℤ, List, [], ◌∷◌, length, drop, set, get_or, refl, sym, ap, ◌∙◌, arith}
use Rattle.std.proofs.lemmas.List.{drop_more}
use Rattle.giotto_check.specs.cited.Slots.{with_slots}

-- one more number
pub next_written : (vs whole : List ℤ) (ks : List ℕ) (zs : List ℤ) (i k : ℕ) (z : ℤ) → i < length ks → i < length zs → get_or ks i k ≡ k → get_or zs i z ≡ z
    → with_slots vs (drop i ks) (drop i zs) ≡ whole → with_slots (set vs k z) (drop (i + 1) ks) (drop (i + 1) zs) ≡ whole
next_written vs whole ks zs i k z left more slot number h =
    let slots : drop i ks ≡ k ∷ drop (i + 1) ks = drop_more ks i k left ∙ ap (λ j. j ∷ drop (i + 1) ks) slot in
    let numbers : drop i zs ≡ z ∷ drop (i + 1) zs = drop_more zs i z more ∙ ap (λ y. y ∷ drop (i + 1) zs) number in
    sym (rw (slots, numbers) refl) ∙ h

none_given : (vs : List ℤ) (ks : List ℕ) → with_slots vs ks [] ≡ vs
none_given vs [] = refl
none_given vs (k ∷ ks) = refl

-- all numbers
pub all_written : (vs : List ℤ) (ks : List ℕ) (zs : List ℤ) (i : ℕ) → min (length ks) (length zs) ≤ i → with_slots vs (drop i ks) (drop i zs) ≡ vs
all_written vs [] zs zero le = refl
all_written vs (k ∷ ks) [] zero le = refl
all_written vs (k ∷ ks) (z ∷ zs) zero le = absurd (omega (arith, le))
all_written vs [] zs (suc i) le = refl
all_written vs (k ∷ ks) [] (suc i) le = none_given vs (drop i ks)
all_written vs (k ∷ ks) (z ∷ zs) (suc i) le = all_written vs ks zs i (omega (arith, le))

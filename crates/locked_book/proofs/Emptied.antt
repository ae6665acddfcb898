-- A list whose elements are changed one by one.
use Rattle.std.proofs.Common.{◌≡◌, ◌<◌, ℕ, zero, suc, ◌+◌, List, [], ◌∷◌, ◌++◌, length, map, take, drop, get_or, set, refl, sym, ap, ◌∙◌, arith}

module _ {X : Type 0} (f : X → X) where
  -- the first i are changed
  abbrev pub changed : List X → ℕ → List X
  changed xs i = map f (take i xs) ++ drop i xs

  pub next_as_before : (xs : List X) (i : ℕ) (d : X) → get_or (changed xs i) i d ≡ get_or xs i d
  next_as_before [] zero d = refl
  next_as_before [] (suc i) d = refl
  next_as_before (x ∷ xs) zero d = refl
  next_as_before (x ∷ xs) (suc i) d = next_as_before xs i d

  changed_suc : (xs : List X) (i : ℕ) (d : X) → i < length xs → set (changed xs i) i (f (get_or xs i d)) ≡ changed xs (suc i)
  changed_suc [] i d lt = absurd (omega (arith, lt))
  changed_suc (x ∷ xs) zero d lt = refl
  changed_suc (x ∷ xs) (suc i) d lt = ap (λ ys. f x ∷ ys) (changed_suc xs i d (omega (arith, lt)))

  pub changed_more : (xs : List X) (i : ℕ) (d new : X) → i < length xs → new ≡ f d → d ≡ get_or xs i d → set (changed xs i) i new ≡ changed xs (i + 1)
  changed_more xs i d new lt is at =
      let next : i + 1 ≡ suc i = omega arith in
      ap (set (changed xs i) i) (is ∙ ap f at) ∙ (changed_suc xs i d lt ∙ ap (changed xs) (sym next))

  pub all_changed : (xs : List X) (i : ℕ) → length xs ≡ i → changed xs i ≡ map f xs
  all_changed [] zero e = refl
  all_changed [] (suc i) e = absurd (omega (arith, e))
  all_changed (x ∷ xs) zero e = absurd (omega (arith, e))
  all_changed (x ∷ xs) (suc i) e = ap (λ ys. f x ∷ ys) (all_changed xs i (omega (arith, e)))

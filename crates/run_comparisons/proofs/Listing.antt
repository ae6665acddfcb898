-- A list over the places before one more place.
use Rattle.std.proofs.Common.{◌≡◌, ◌+◌, ◌<◌, ◌||◌, ℕ, zero, suc, Bool, true, false, List, [], ◌∷◌, ◌++◌, map, get_or, length, refl, sym, ap, ◌∙◌, append-nil, arith}
use Rattle.std.proofs.lemmas.List.{flat_map_more}
use Rattle.std.proofs.lemmas.List.Elements.{filter-append}
use Rattle.std.proofs.lemmas.List.Folds.{list_any-append, list_any_at}
use Rattle.std.proofs.lemmas.List.FromFn.{get_or-range_with_len, length-range_with_len, map-range_with_len_more}
use Rattle.std.specs.List.{filter, flat_map, list_any, range_with_len}

last_of_range : (a n j : ℕ) → a + n ≡ j → range_with_len a (suc n) ≡ range_with_len a n ++ j ∷ []
last_of_range a zero j e = let same : a ≡ j = omega arith in ap (λ k. k ∷ []) same
last_of_range a (suc n) j e = ap (λ l. a ∷ l) (last_of_range (a + 1) n j (omega arith))

range_more : (n : ℕ) → range_with_len 0 (n + 1) ≡ range_with_len 0 n ++ n ∷ []
range_more n = let next : n + 1 ≡ suc n = omega arith in ap (range_with_len 0) next ∙ last_of_range 0 n n (omega arith)

module _ (p : ℕ → Bool) where
  filter_more : (n : ℕ) → filter p (range_with_len 0 (n + 1)) ≡ filter p (range_with_len 0 n) ++ filter p (n ∷ [])
  filter_more n = ap (filter p) (range_more n) ∙ filter-append p (range_with_len 0 n) (n ∷ [])

  -- the place passes
  filter_with : (n : ℕ) → p n ≡ true → filter p (range_with_len 0 (n + 1)) ≡ filter p (range_with_len 0 n) ++ n ∷ []
  filter_with n is = let one : filter p (n ∷ []) ≡ n ∷ [] = rw is refl in filter_more n ∙ ap (λ ks. filter p (range_with_len 0 n) ++ ks) one

  -- it doesn't
  filter_without : (n : ℕ) → p n ≡ false → filter p (range_with_len 0 (n + 1)) ≡ filter p (range_with_len 0 n)
  filter_without n is = let none : filter p (n ∷ []) ≡ [] = rw is refl in filter_more n ∙ (ap (λ ks. filter p (range_with_len 0 n) ++ ks) none ∙ append-nil (filter p (range_with_len 0 n)))

  pub passes : (n : ℕ) (before after : List ℕ) → before ≡ filter p (range_with_len 0 n) → p n ≡ true → after ≡ before ++ n ∷ [] → after ≡ filter p (range_with_len 0 (n + 1))
  passes n before after so is grown = grown ∙ (ap (λ ks. ks ++ n ∷ []) so ∙ sym (filter_with n is))

  pub fails : (n : ℕ) (before : List ℕ) → before ≡ filter p (range_with_len 0 n) → p n ≡ false → before ≡ filter p (range_with_len 0 (n + 1))
  fails n before so is = so ∙ sym (filter_without n is)

  -- a text of the places that pass
  pub text_with : (f : ℕ → List ℕ) (n : ℕ) (before after : List ℕ) → before ≡ flat_map f (filter p (range_with_len 0 n)) → p n ≡ true → after ≡ before ++ f n
      → after ≡ flat_map f (filter p (range_with_len 0 (n + 1)))
  text_with f n before after so is grown =
      grown ∙ (ap (λ t. t ++ f n) so ∙ (flat_map_more f [] (filter p (range_with_len 0 n)) n ∙ ap (flat_map f) (sym (filter_with n is))))

  pub text_without : (f : ℕ → List ℕ) (n : ℕ) (before : List ℕ) → before ≡ flat_map f (filter p (range_with_len 0 n)) → p n ≡ false → before ≡ flat_map f (filter p (range_with_len 0 (n + 1)))
  text_without f n before so is = so ∙ ap (flat_map f) (sym (filter_without n is))

  -- one place settles the answer
  pub any_at : (n k : ℕ) → k < n → p k ≡ true → list_any p (range_with_len 0 n) ≡ true
  any_at n k lt is =
      let within : k < length (range_with_len 0 n) = omega (arith, length-range_with_len 0 n) in
      let from_start : 0 + k ≡ k = omega arith in
      list_any_at p (range_with_len 0 n) k 0 within (ap p (get_or-range_with_len 0 n k 0 lt ∙ from_start) ∙ is)

  pub none_more : (n : ℕ) → list_any p (range_with_len 0 n) ≡ false → p n ≡ false → list_any p (range_with_len 0 (n + 1)) ≡ false
  none_more n none is =
      let last : list_any p (n ∷ []) ≡ false = rw is refl in
      ap (list_any p) (range_more n) ∙ (list_any-append p (range_with_len 0 n) (n ∷ []) ∙ (ap (λ b. b || list_any p (n ∷ [])) none ∙ last))

-- one more value
pub mapped : {X : Type 0} (f : ℕ → X) (n : ℕ) (before after : List X) (x : X) → before ≡ map f (range_with_len 0 n) → x ≡ f n → after ≡ before ++ x ∷ [] → after ≡ map f (range_with_len 0 (n + 1))
mapped f n before after x so is grown =
    let from_start : 0 + n ≡ n = omega arith in
    grown ∙ (ap (λ xs. xs ++ x ∷ []) so ∙ (ap (λ y. map f (range_with_len 0 n) ++ y ∷ []) is ∙ sym (map-range_with_len_more f 0 n n from_start)))

-- The first part with a given cost, looked for one by one.
use Rattle.std.proofs.Common.{◌≡◌, ◌+◌, ◌<◌, ◌≤◌, ◌==◌, ℕ, Bool, true, false, List, [], ◌∷◌, ◌++◌, length, map, take, drop, get_or, Option, Some, None, refl, sym, ap, ◌∙◌, append-nil, arith}
use Rattle.std.specs.Option.{option_or}
use Rattle.std.specs.List.{flat_map}
use Rattle.std.proofs.lemmas.Bool.Decides.{nat_tests}
use Rattle.std.proofs.lemmas.Grind.{flat_map-append}
use Rattle.std.proofs.lemmas.List.{map-append, take_all, take_more, take-append-drop}
use Rattle.std.proofs.lemmas.List.Folds.{find-append}
use Rattle.giotto_reports.specs.Parts.{ProgramPart, first_of_cost, steps_of_part}

module _ (cost : ℕ) where
  test : ProgramPart → Bool
  test part = steps_of_part part == cost

  -- after parts none of which has this cost
  pub behind : (before here : List ProgramPart) (r : Option ProgramPart) → first_of_cost cost before ≡ None → first_of_cost cost here ≡ r → first_of_cost cost (before ++ here) ≡ r
  behind before here r none is = find-append (λ part. steps_of_part part == cost) before here ∙ (ap (λ o. option_or o (first_of_cost cost here)) none ∙ is)

  pub in_front : (here later : List ProgramPart) (part : ProgramPart) → first_of_cost cost here ≡ Some part → first_of_cost cost (here ++ later) ≡ Some part
  in_front here later part is = find-append (λ part. steps_of_part part == cost) here later ∙ ap (λ o. option_or o (first_of_cost cost later)) is

  one_found : (part : ProgramPart) (steps : ℕ) → steps ≡ steps_of_part part → steps ≡ cost → first_of_cost cost (part ∷ []) ≡ Some part
  one_found part steps is same = let costs : (steps_of_part part == cost) ≡ true = grind (arith, nat_tests, is, same) in rw costs refl

  one_passed : (part : ProgramPart) (steps : ℕ) → steps ≡ steps_of_part part → (steps ≡ cost → ⊥) → first_of_cost cost (part ∷ []) ≡ None
  one_passed part steps is other = by (steps_of_part part == cost) refl
    where
      by : (b : Bool) → (steps_of_part part == cost) ≡ b → first_of_cost cost (part ∷ []) ≡ None
      by true e = absurd (other (is ∙ grind (arith, nat_tests, e)))
      by false e = rw e refl

  -- a loop over a list that searches the parts which `H` makes of each element
  module _ {X : Type 0} (H : List X → List ProgramPart) (joins : (us vs : List X) → H (us ++ vs) ≡ H us ++ H vs) (xs : List X) (i : ℕ) where
    module _ (x : X) (none : first_of_cost cost (H (take i xs)) ≡ None) (within : i < length xs) (item : x ≡ get_or xs i x) where
      further : (r : Option ProgramPart) → first_of_cost cost (H (x ∷ [])) ≡ r → first_of_cost cost (H (take (i + 1) xs)) ≡ r
      further r is =
          let taken : take (i + 1) xs ≡ take i xs ++ x ∷ [] = take_more xs i x within ∙ ap (λ y. take i xs ++ y ∷ []) (sym item) in
          ap (λ l. first_of_cost cost (H l)) taken ∙ (ap (first_of_cost cost) (joins (take i xs) (x ∷ [])) ∙ behind (H (take i xs)) (H (x ∷ [])) r none is)

      pub none_further : first_of_cost cost (H (x ∷ [])) ≡ None → first_of_cost cost (H (take (i + 1) xs)) ≡ None
      none_further = further None

      pub found_here : (part : ProgramPart) → first_of_cost cost (H (x ∷ [])) ≡ Some part → first_of_cost cost (H xs) ≡ Some part
      found_here part is =
          ap (λ l. first_of_cost cost (H l)) (sym (take-append-drop (i + 1) xs)) ∙ (ap (first_of_cost cost) (joins (take (i + 1) xs) (drop (i + 1) xs))
          ∙ in_front (H (take (i + 1) xs)) (H (drop (i + 1) xs)) part (further (Some part) is))

    pub none_at_all : first_of_cost cost (H (take i xs)) ≡ None → length xs ≤ i → first_of_cost cost (H xs) ≡ None
    none_at_all none end = ap (λ l. first_of_cost cost (H l)) (sym (take_all i xs end)) ∙ none

  -- a part for each element
  module _ {X Y : Type 0} (wrap : Y → ProgramPart) (tree : X → Y) (xs : List X) (i : ℕ) where
    joined : (us vs : List X) → map wrap (map tree (us ++ vs)) ≡ map wrap (map tree us) ++ map wrap (map tree vs)
    joined us vs = ap (map wrap) (map-append tree us vs) ∙ map-append wrap (map tree us) (map tree vs)

    module _ (x : X) (steps : ℕ) (none : first_of_cost cost (map wrap (map tree (take i xs))) ≡ None) (within : i < length xs) (item : x ≡ get_or xs i x) (is : steps ≡ steps_of_part (wrap (tree x))) where
      pub part_found : steps ≡ cost → first_of_cost cost (map wrap (map tree xs)) ≡ Some (wrap (tree x))
      part_found same = found_here (λ us. map wrap (map tree us)) joined xs i x none within item (wrap (tree x)) (one_found (wrap (tree x)) steps is same)

      pub part_passed : (steps ≡ cost → ⊥) → first_of_cost cost (map wrap (map tree (take (i + 1) xs))) ≡ None
      part_passed other = none_further (λ us. map wrap (map tree us)) joined xs i x none within item (one_passed (wrap (tree x)) steps is other)

    pub all_passed : first_of_cost cost (map wrap (map tree (take i xs))) ≡ None → length xs ≤ i → first_of_cost cost (map wrap (map tree xs)) ≡ None
    all_passed = none_at_all (λ us. map wrap (map tree us)) joined xs i

  -- several parts for each element
  module _ {X Y : Type 0} (parts_of : Y → List ProgramPart) (tree : X → Y) (xs : List X) (i : ℕ) where
    all_joined : (us vs : List X) → flat_map parts_of (map tree (us ++ vs)) ≡ flat_map parts_of (map tree us) ++ flat_map parts_of (map tree vs)
    all_joined us vs = ap (flat_map parts_of) (map-append tree us vs) ∙ flat_map-append parts_of (map tree us) (map tree vs)

    module _ (x : X) (none : first_of_cost cost (flat_map parts_of (map tree (take i xs))) ≡ None) (within : i < length xs) (item : x ≡ get_or xs i x) where
      pub found_among : (part : ProgramPart) → first_of_cost cost (parts_of (tree x)) ≡ Some part → first_of_cost cost (flat_map parts_of (map tree xs)) ≡ Some part
      found_among part is = found_here (λ us. flat_map parts_of (map tree us)) all_joined xs i x none within item part (ap (first_of_cost cost) (append-nil (parts_of (tree x))) ∙ is)

      pub passed_among : first_of_cost cost (parts_of (tree x)) ≡ None → first_of_cost cost (flat_map parts_of (map tree (take (i + 1) xs))) ≡ None
      passed_among is = none_further (λ us. flat_map parts_of (map tree us)) all_joined xs i x none within item (ap (first_of_cost cost) (append-nil (parts_of (tree x))) ∙ is)

    pub all_among : first_of_cost cost (flat_map parts_of (map tree (take i xs))) ≡ None → length xs ≤ i → first_of_cost cost (flat_map parts_of (map tree xs)) ≡ None
    all_among = none_at_all (λ us. flat_map parts_of (map tree us)) all_joined xs i

-- A loop that writes a text for each element, one element further.
use Rattle.std.proofs.Common.{◌≡◌, ◌+◌, ◌<◌, ℕ, List, [], ◌∷◌, ◌++◌, length, map, take, get_or, sym, ap, ◌∙◌}
use Rattle.std.specs.List.{flat_map}
use Rattle.std.proofs.lemmas.List.{take_more, flat_map_more, map-append}

module _ {X Y : Type 0} (text_of : Y → List ℕ) (tree_of : X → Y) where
  pub written_more : (first : List ℕ) (xs : List X) (i : ℕ) (x : X) (before told after : List ℕ) → before ≡ first ++ flat_map text_of (map tree_of (take i xs)) → i < length xs → x ≡ get_or xs i x
      → told ≡ text_of (tree_of x) → after ≡ before ++ told → after ≡ first ++ flat_map text_of (map tree_of (take (i + 1) xs))
  written_more first xs i x before told after all within item is grown =
      let next : map tree_of (take i xs) ++ tree_of x ∷ [] ≡ map tree_of (take (i + 1) xs) =
      sym (ap (map tree_of) (take_more xs i x within ∙ ap (λ y. take i xs ++ y ∷ []) (sym item)) ∙ map-append tree_of (take i xs) (x ∷ [])) in
      grown ∙ (ap (λ t. before ++ t) is ∙ (ap (λ t. t ++ text_of (tree_of x)) all ∙ (flat_map_more text_of first (map tree_of (take i xs)) (tree_of x) ∙ ap (λ ys. first ++ flat_map text_of ys) next)))

-- An iteration of a loop that takes one thing from each element of a list.
use Rattle.std.proofs.Common.{◌≡◌, ℕ, ◌+◌, ◌<◌, List, [], ◌∷◌, ◌++◌, length, get_or, map, take, refl, sym, ap, ◌∙◌}
use Rattle.std.proofs.lemmas.List.{append_assoc, map-append, take_more}

-- one more element
pub taken_more : {X Y Z : Type 0} (g : Y → Z) (f : X → Y) (xs : List X) (i : ℕ) (x : X) (z : Z) (old new : List Z) → i < length xs
    → x ≡ get_or xs i x → old ≡ map g (map f (take i xs)) → z ≡ g (f x) → new ≡ old ++ z ∷ [] → new ≡ map g (map f (take (i + 1) xs))
taken_more g f xs i x z old new lt is before taken more =
    let step : take (i + 1) xs ≡ take i xs ++ x ∷ [] = take_more xs i x lt ∙ ap (λ y. take i xs ++ y ∷ []) (sym is) in
    let all : map g (map f (take (i + 1) xs)) ≡ map g (map f (take i xs)) ++ g (f x) ∷ [] =
    ap (λ ys. map g (map f ys)) step ∙ ap (map g) (map-append f (take i xs) (x ∷ [])) ∙ map-append g (map f (take i xs)) (f x ∷ []) in
    more ∙ ap (λ ys. ys ++ z ∷ []) before ∙ ap (λ y. map g (map f (take i xs)) ++ y ∷ []) taken ∙ sym all

-- one more element, after those that were there before the loop
pub added_more : {X Y Z : Type 0} (first : List Z) (g : Y → Z) (f : X → Y) (xs : List X) (i : ℕ) (x : X) (z : Z) (old new : List Z) → i < length xs
    → x ≡ get_or xs i x → old ≡ first ++ map g (map f (take i xs)) → z ≡ g (f x) → new ≡ old ++ z ∷ [] → new ≡ first ++ map g (map f (take (i + 1) xs))
added_more first g f xs i x z old new lt is before taken more =
    let all : map g (map f (take i xs)) ++ z ∷ [] ≡ map g (map f (take (i + 1) xs)) =
    taken_more g f xs i x z (map g (map f (take i xs))) (map g (map f (take i xs)) ++ z ∷ []) lt is refl taken refl in
    more ∙ ap (λ ys. ys ++ z ∷ []) before ∙ append_assoc first (map g (map f (take i xs))) (z ∷ []) ∙ ap (λ ys. first ++ ys) all

-- one more element, with another function applied to what is taken
pub taken_more_of : {X Y Z W : Type 0} (h : Z → W) (g : Y → Z) (f : X → Y) (xs : List X) (i : ℕ) (x : X) (w : W) (old new : List W) → i < length xs
    → x ≡ get_or xs i x → old ≡ map h (map g (map f (take i xs))) → w ≡ h (g (f x)) → new ≡ old ++ w ∷ [] → new ≡ map h (map g (map f (take (i + 1) xs)))
taken_more_of h g f xs i x w old new lt is before taken more =
    let all : map g (map f (take i xs)) ++ g (f x) ∷ [] ≡ map g (map f (take (i + 1) xs)) =
    taken_more g f xs i x (g (f x)) (map g (map f (take i xs))) (map g (map f (take i xs)) ++ g (f x) ∷ []) lt is refl refl refl in
    more ∙ ap (λ ys. ys ++ w ∷ []) before ∙ ap (λ y. map h (map g (map f (take i xs))) ++ y ∷ []) taken
    ∙ sym (map-append h (map g (map f (take i xs))) (g (f x) ∷ [])) ∙ ap (map h) all

-- Two lists of the same length, each with one more element.
use Rattle.std.proofs.Common.{◌≡◌, ◌+◌, List, [], ◌∷◌, ◌++◌, length, ap, sym, ◌∙◌, refl, arith, length-append}
use Rattle.std.specs.List.{zip}

zip_push : {A B : Type 0} (xs : List A) (ys : List B) (x : A) (y : B) → length xs ≡ length ys → zip (xs ++ x ∷ []) (ys ++ y ∷ []) ≡ zip xs ys ++ (x, y) ∷ []
zip_push [] [] x y e = refl
zip_push [] (b ∷ ys) x y e = absurd (omega arith)
zip_push (a ∷ xs) [] x y e = absurd (omega arith)
zip_push (a ∷ xs) (b ∷ ys) x y e = ap (λ ps. (a, b) ∷ ps) (zip_push xs ys x y (omega arith))

pub pairs_pushed : {A B : Type 0} (xs ns : List A) (ys zs : List B) (x : A) (y : B) → ns ≡ xs ++ x ∷ [] → zs ≡ ys ++ y ∷ [] → length xs ≡ length ys → zip ns zs ≡ zip xs ys ++ (x, y) ∷ []
pairs_pushed xs ns ys zs x y p q e = ap (λ ws. zip ws zs) p ∙ ap (λ ws. zip (xs ++ x ∷ []) ws) q ∙ zip_push xs ys x y e

pub lengths_pushed : {A B : Type 0} (xs ns : List A) (ys zs : List B) (x : A) (y : B) → ns ≡ xs ++ x ∷ [] → zs ≡ ys ++ y ∷ [] → length xs ≡ length ys → length ns ≡ length zs
lengths_pushed xs ns ys zs x y p q e = ap length p ∙ length-append xs (x ∷ []) ∙ ap (λ n. n + 1) e ∙ sym (ap length q ∙ length-append ys (y ∷ []))

-- Two lists of the same length whose elements are related place by place.
use Rattle.std.proofs.Common.{◌≡◌, ℕ, zero, suc, ◌+◌, ◌<◌, ◌≤◌, nat_lt, Bor, List, [], ◌∷◌, ◌++◌, length, map, take, drop, get_or, Option, Some, None, refl, sym, ap, subst, ◌∙◌, arith}
use Rattle.std.specs.Prelude.{IfSome, IsSomeAnd, is_some, slice_get}
use Rattle.std.specs.List.{AllByRecursion}
use Rattle.std.proofs.lemmas.Bool.Decides.{nat_tests}
use Rattle.std.proofs.lemmas.List.{drop_more, map-append, take-append-drop, take_more}
use Rattle.std.proofs.lemmas.Option.{slice_get-get_or, slice_get_within}
use Rattle.giotto_tasks.proofs.cited.ListLemmas.{all_mapped_at}
use Rattle.giotto_check.specs.cited.Timetables.{AreEach}

pub each_long : {A B : Type 0} (R : A → B → Type 0) (xs : List A) (ys : List B) → AreEach R xs ys → length xs ≡ length ys
each_long R [] [] all = omega arith
each_long R [] (y ∷ ys) all = absurd all
each_long R (x ∷ xs) [] all = absurd all
each_long R (x ∷ xs) (y ∷ ys) all = ap suc (each_long R xs ys all.1)

-- one more element at the end of both
pub each_more : {A B : Type 0} (R : A → B → Type 0) (xs : List A) (ys : List B) (x : A) (y : B) → AreEach R xs ys → R x y → AreEach R (xs ++ x ∷ []) (ys ++ y ∷ [])
each_more R [] [] x y all one = (one, tt)
each_more R [] (z ∷ ys) x y all one = absurd all
each_more R (z ∷ xs) [] x y all one = absurd all
each_more R (z ∷ xs) (w ∷ ys) x y all one = (all.0, each_more R xs ys x y all.1 one)

-- one more element, for the images of the first elements
pub each_next : {X A B : Type 0} (R : A → B → Type 0) (f : X → A) (xs : List X) (i : ℕ) (x : X) (ys zs : List B) (y : B) → i < length xs → x ≡ get_or xs i x → AreEach R (map f (take i xs)) ys
    → R (f x) y → zs ≡ ys ++ y ∷ [] → AreEach R (map f (take (i + 1) xs)) zs
each_next R f xs i x ys zs y lt is all one more =
    let next : take (i + 1) xs ≡ take i xs ++ x ∷ [] = take_more xs i x lt ∙ ap (λ z. take i xs ++ z ∷ []) (sym is) in
    let on : map f (take (i + 1) xs) ≡ map f (take i xs) ++ f x ∷ [] = ap (map f) next ∙ map-append f (take i xs) (x ∷ []) in
    rw (on, more) (each_more R (map f (take i xs)) ys (f x) y all one)

-- what holds for the images of all elements holds for the image of one
pub all_item : {X A : Type 0} (P : A → Type 0) (f : X → A) (xs : List X) (ys : List A) (i : ℕ) (x : X) → map f xs ≡ ys → x ≡ get_or xs i x → i < length xs → AllByRecursion P ys → P (f x)
all_item P f xs ys i x same is lt all = subst (λ z. P (f z)) (sym is) (all_mapped_at P f xs i x (subst (AllByRecursion P) (sym same) all) lt)

-- the elements at one place are related
pub each_at : {A B : Type 0} (R : A → B → Type 0) (xs : List A) (ys : List B) (k : ℕ) (x : A) (y : B) → AreEach R xs ys → slice_get xs k ≡ Some x → slice_get ys k ≡ Some y → R x y
each_at R [] ys k x y all at with_it = absurd (cc)
each_at R (z ∷ xs) [] k x y all at with_it = absurd (cc)
each_at R (z ∷ xs) (w ∷ ys) zero x y all at with_it =
    let first : z ≡ x = cc in
    let second : w ≡ y = cc in
    subst (λ a. R a y) first (subst (λ b. R z b) second all.0)
each_at R (z ∷ xs) (w ∷ ys) (suc k) x y all at with_it = each_at R xs ys k x y all.1 at with_it

-- the element that a lookup in the second list borrows, at a place of the first list
pub lent_at : {A B : Type 0} (R : A → B → Type 0) (xs : List A) (ys : List B) (k : ℕ) (x : A) (o : Option (Bor B)) → AreEach R xs ys → slice_get xs k ≡ Some x → is_some o ≡ nat_lt k (length ys)
    → IfSome o (λ y. y.now ≡ get_or ys k y.now) → IsSomeAnd o (λ y. R x y.now)
lent_at {B = B} R xs ys k x o all at there item =
    let lt : k < length ys = omega (arith, slice_get_within xs k x at, each_long R xs ys all) in
    by o there item lt
  where
    by : (o : Option (Bor B)) → is_some o ≡ nat_lt k (length ys) → IfSome o (λ y. y.now ≡ get_or ys k y.now) → k < length ys → IsSomeAnd o (λ y. R x y.now)
    by None there item lt = absurd (grind (arith, nat_tests, there))
    by (Some y) there item lt = each_at R xs ys k x y.now all at (slice_get-get_or ys k y.now lt ∙ ap Some (sym item))

pub none_past : {B : Type 0} (n k : ℕ) (ys : List B) (o : Option (Bor B)) → n ≡ length ys → is_some o ≡ nat_lt k (length ys) → n ≤ k → o ≡ None
none_past n k ys None long there le = refl
none_past n k ys (Some y) long there le = absurd (grind (arith, nat_tests, there))

-- a list of images, split at a place
pub cut_at : {X A : Type 0} (f : X → A) (xs : List X) (ys : List A) (i : ℕ) (x : X) → map f xs ≡ ys → x ≡ get_or xs i x → i < length xs → ys ≡ map f (take i xs) ++ f x ∷ map f (drop (i + 1) xs)
cut_at f xs ys i x same is lt =
    let parts : xs ≡ take i xs ++ x ∷ drop (i + 1) xs =
    sym (take-append-drop i xs) ∙ ap (λ zs. take i xs ++ zs) (drop_more xs i x lt ∙ ap (λ z. z ∷ drop (i + 1) xs) (sym is)) in
    sym same ∙ ap (map f) parts ∙ map-append f (take i xs) (x ∷ drop (i + 1) xs)

-- the rest of a list of images, one step further
pub left_at : {X A : Type 0} (f : X → A) (xs : List X) (i : ℕ) (x : X) → x ≡ get_or xs i x → i < length xs → map f (drop i xs) ≡ f x ∷ map f (drop (i + 1) xs)
left_at f xs i x is lt = ap (map f) (drop_more xs i x lt ∙ ap (λ z. z ∷ drop (i + 1) xs) (sym is))

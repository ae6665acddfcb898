-- Tests that all elements of concatenated lists pass.
use Rattle.std.proofs.Common.{◌≡◌, ℕ, zero, suc, ◌<◌, Bool, true, List, [], ◌∷◌, ◌++◌, length, map, get_or, refl, ap, ◌∙◌, arith}
use Rattle.std.specs.List.{flat_map, list_all}
use Rattle.std.proofs.lemmas.Bool.{and_parts, and_from}

pub all_in_parts : {X : Type 0} (test : X → Bool) (xs ys : List X) → list_all test (xs ++ ys) ≡ true → (list_all test xs ≡ true) × (list_all test ys ≡ true)
all_in_parts test [] ys h = (refl, h)
all_in_parts test (x ∷ xs) ys h =
    let both = and_parts (test x) (list_all test (xs ++ ys)) h in
    let rest = all_in_parts test xs ys both.1 in
    (and_from (test x) (list_all test xs) both.0 rest.0, rest.1)

pub passes_at : {X : Type 0} (test : X → Bool) (xs : List X) (i : ℕ) (d : X) → list_all test xs ≡ true → i < length xs → test (get_or xs i d) ≡ true
passes_at test [] i d h lt = absurd (omega arith)
passes_at test (x ∷ xs) zero d h lt = (and_parts (test x) (list_all test xs) h).0
passes_at test (x ∷ xs) (suc i) d h lt = passes_at test xs i d (and_parts (test x) (list_all test xs) h).1 (omega arith)

pub passes_item : {X A Y : Type 0} (test : Y → Bool) (f : X → A) (g : A → Y) (xs : List X) (i : ℕ) (x : X) → list_all test (map g (map f xs)) ≡ true → x ≡ get_or xs i x → i < length xs
    → test (g (f x)) ≡ true
passes_item {X = X} test f g xs i x h is lt = ap (λ z. test (g (f z))) is ∙ at xs i h lt
  where
    at : (xs : List X) (i : ℕ) → list_all test (map g (map f xs)) ≡ true → i < length xs → test (g (f (get_or xs i x))) ≡ true
    at [] i h lt = absurd (omega arith)
    at (y ∷ ys) zero h lt = (and_parts (test (g (f y))) (list_all test (map g (map f ys))) h).0
    at (y ∷ ys) (suc i) h lt = at ys i (and_parts (test (g (f y))) (list_all test (map g (map f ys))) h).1 (omega arith)

pub all_in_item : {X A Y : Type 0} (test : Y → Bool) (f : X → A) (g : A → List Y) (xs : List X) (i : ℕ) (x : X) → list_all test (flat_map g (map f xs)) ≡ true → x ≡ get_or xs i x → i < length xs
    → list_all test (g (f x)) ≡ true
all_in_item {X = X} test f g xs i x h is lt = ap (λ z. list_all test (g (f z))) is ∙ at xs i h lt
  where
    at : (xs : List X) (i : ℕ) → list_all test (flat_map g (map f xs)) ≡ true → i < length xs → list_all test (g (f (get_or xs i x))) ≡ true
    at [] i h lt = absurd (omega arith)
    at (y ∷ ys) zero h lt = (all_in_parts test (g (f y)) (flat_map g (map f ys)) h).0
    at (y ∷ ys) (suc i) h lt = at ys i (all_in_parts test (g (f y)) (flat_map g (map f ys)) h).1 (omega arith)

-- a test that all images pass is passed by the image of one element
pub test_at_item : {X A : Type 0} (test : A → Bool) (f : X → A) (xs : List X) (i : ℕ) (x : X) → list_all test (map f xs) ≡ true → x ≡ get_or xs i x → i < length xs → test (f x) ≡ true
test_at_item {X = X} test f xs i x h is lt = ap (λ z. test (f z)) is ∙ at xs i h lt
  where
    at : (xs : List X) (i : ℕ) → list_all test (map f xs) ≡ true → i < length xs → test (f (get_or xs i x)) ≡ true
    at [] i h lt = absurd (omega arith)
    at (y ∷ ys) zero h lt = (and_parts (test (f y)) (list_all test (map f ys)) h).0
    at (y ∷ ys) (suc i) h lt = at ys i (and_parts (test (f y)) (list_all test (map f ys)) h).1 (omega arith)

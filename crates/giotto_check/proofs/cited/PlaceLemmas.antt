-- The first place in a list at which an element passes a test.
use Rattle.std.proofs.Common.{◌≡◌, ℕ, suc, ◌+◌, ◌<◌, Bool, true, false, cond, List, [], ◌∷◌, ◌++◌, length, map, Some, None, refl, sym, ap, ◌∙◌, arith}
use Rattle.std.specs.Prelude.{is_some, slice_get}
use Rattle.std.specs.List.{find, position_from}
use Rattle.std.specs.Option.{option_map, option_or}

pub place-append : {X : Type 0} (test : X → Bool) (i : ℕ) (xs ys : List X) → position_from test i (xs ++ ys) ≡ option_or (position_from test i xs) (position_from test (i + length xs) ys)
place-append test i [] ys = let same : i ≡ i + 0 = omega arith in ap (λ k. position_from test k ys) same
place-append test i (x ∷ xs) ys = by (test x) (place-append test (i + 1) xs ys)
  where
    by : (b : Bool) → position_from test (i + 1) (xs ++ ys) ≡ option_or (position_from test (i + 1) xs) (position_from test (i + 1 + length xs) ys)
        → cond b (Some i) (position_from test (i + 1) (xs ++ ys)) ≡ option_or (cond b (Some i) (position_from test (i + 1) xs)) (position_from test (i + suc (length xs)) ys)
    by true rest = refl
    by false rest =
        let same : i + 1 + length xs ≡ i + suc (length xs) = omega arith in
        rest ∙ ap (λ k. option_or (position_from test (i + 1) xs) (position_from test k ys)) same

pub place-map : {X Y : Type 0} (test : Y → Bool) (f : X → Y) (i : ℕ) (xs : List X) → position_from test i (map f xs) ≡ position_from (λ x. test (f x)) i xs
place-map test f i [] = refl
place-map test f i (x ∷ xs) = ap (λ o. cond (test (f x)) (Some i) o) (place-map test f (i + 1) xs)

-- places counted from another number
pub place_from : {X : Type 0} (test : X → Bool) (i : ℕ) (xs : List X) → position_from test i xs ≡ option_map (λ k. i + k) (position_from test 0 xs)
place_from {X = X} test i xs = let none : i + 0 ≡ i = omega arith in ap (λ k. position_from test k xs) (sym none) ∙ on 0 xs
  where
    on : (j : ℕ) (xs : List X) → position_from test (i + j) xs ≡ option_map (λ k. i + k) (position_from test j xs)
    on j [] = refl
    on j (x ∷ xs) = by (test x) (let next : i + j + 1 ≡ i + (j + 1) = omega arith in ap (λ k. position_from test k xs) next ∙ on (j + 1) xs)
      where
        by : (b : Bool) → position_from test (i + j + 1) xs ≡ option_map (λ k. i + k) (position_from test (j + 1) xs)
            → cond b (Some (i + j)) (position_from test (i + j + 1) xs) ≡ option_map (λ k. i + k) (cond b (Some j) (position_from test (j + 1) xs))
        by true rest = refl
        by false rest = rest

-- tests with the same results find the same place
pub place_same : {X : Type 0} (p q : X → Bool) → ((x : X) → p x ≡ q x) → (i : ℕ) (xs : List X) → position_from p i xs ≡ position_from q i xs
place_same p q same i [] = refl
place_same p q same i (x ∷ xs) =
    let first = same x in
    let rest = place_same p q same (i + 1) xs in
    rw (first, rest) refl

-- a test that no element passes finds no place
pub place_none : {X : Type 0} (test : X → Bool) → ((x : X) → test x ≡ false) → (i : ℕ) (xs : List X) → position_from test i xs ≡ None
place_none test none i [] = refl
place_none test none i (x ∷ xs) =
    let first = none x in
    let rest = place_none test none (i + 1) xs in
    rw (first, rest) refl

-- the first element that is found is at the first place
pub found_there : {X : Type 0} (test : X → Bool) (i : ℕ) (xs : List X) (k : ℕ) (x : X) → position_from test i xs ≡ Some k → find test xs ≡ Some x → (j : ℕ) × (k ≡ i + j) × (slice_get xs j ≡ Some x)
found_there test i [] k x e f = absurd (cc)
found_there test i (y ∷ xs) k x e f = by (test y) e f (found_there test (i + 1) xs k x)
  where
    by : (b : Bool) → cond b (Some i) (position_from test (i + 1) xs) ≡ Some k → cond b (Some y) (find test xs) ≡ Some x
        → (position_from test (i + 1) xs ≡ Some k → find test xs ≡ Some x → (j : ℕ) × (k ≡ i + 1 + j) × (slice_get xs j ≡ Some x))
        → (j : ℕ) × (k ≡ i + j) × (slice_get (y ∷ xs) j ≡ Some x)
    by true e f rest = let same : i ≡ k = cc in (0, omega arith, f)
    by false e f rest = let there = rest e f in (suc there.0, omega (arith, there.1), there.2)

-- there is a place exactly if some element passes
pub place_if_found : {X : Type 0} (test : X → Bool) (i : ℕ) (xs : List X) → is_some (position_from test i xs) ≡ is_some (find test xs)
place_if_found test i [] = refl
place_if_found test i (x ∷ xs) = by (test x) (place_if_found test (i + 1) xs)
  where
    by : (b : Bool) → is_some (position_from test (i + 1) xs) ≡ is_some (find test xs) → is_some (cond b (Some i) (position_from test (i + 1) xs)) ≡ is_some (cond b (Some x) (find test xs))
    by true rest = refl
    by false rest = rest

-- the place in the first list if an element passes there, and in the second list if none does
pub place_first : {X : Type 0} (test : X → Bool) (i k : ℕ) (xs ys : List X) → position_from test 0 xs ≡ Some k → position_from test i (xs ++ ys) ≡ Some (i + k)
place_first test i k xs ys e = place-append test i xs ys ∙ ap (λ o. option_or o (position_from test (i + length xs) ys)) (place_from test i xs ∙ ap (option_map (λ n. i + n)) e)

pub place_second : {X : Type 0} (test : X → Bool) (i : ℕ) (xs ys : List X) → position_from test 0 xs ≡ None → position_from test i (xs ++ ys) ≡ position_from test (i + length xs) ys
place_second test i xs ys e = place-append test i xs ys ∙ ap (λ o. option_or o (position_from test (i + length xs) ys)) (place_from test i xs ∙ ap (option_map (λ n. i + n)) e)

-- a place is within the list
pub place_within : {X : Type 0} (test : X → Bool) (i : ℕ) (xs : List X) (k : ℕ) → position_from test i xs ≡ Some k → k < i + length xs
place_within test i [] k e = absurd (cc)
place_within test i (x ∷ xs) k e = by (test x) e (place_within test (i + 1) xs k)
  where
    by : (b : Bool) → cond b (Some i) (position_from test (i + 1) xs) ≡ Some k → (position_from test (i + 1) xs ≡ Some k → k < i + 1 + length xs) → k < i + suc (length xs)
    by true e rest = let same : i ≡ k = cc in omega arith
    by false e rest = let lt = rest e in omega (arith, lt)

-- the element at the first place passes the test
pub passes_there : {X : Type 0} (test : X → Bool) (i : ℕ) (xs : List X) (k : ℕ) → position_from test i xs ≡ Some k → (j : ℕ) × (x : X) × (k ≡ i + j) × (slice_get xs j ≡ Some x) × (test x ≡ true)
passes_there test i [] k e = absurd (cc)
passes_there {X = X} test i (y ∷ xs) k e = by (test y) refl e (passes_there test (i + 1) xs k)
  where
    by : (b : Bool) → test y ≡ b → cond b (Some i) (position_from test (i + 1) xs) ≡ Some k
        → (position_from test (i + 1) xs ≡ Some k → (j : ℕ) × (x : X) × (k ≡ i + 1 + j) × (slice_get xs j ≡ Some x) × (test x ≡ true))
        → (j : ℕ) × (x : X) × (k ≡ i + j) × (slice_get (y ∷ xs) j ≡ Some x) × (test x ≡ true)
    by true is e rest = let same : i ≡ k = cc in (0, y, omega arith, refl, is)
    by false is e rest = let found = rest e in (suc found.0, found.1, omega (arith, found.2), found.3, found.4)

-- Numbers that are written from a slot on, and more numbers after them.
use Rattle.std.proofs.Common.{◌≡◌, ℕ, zero, suc, ◌+◌, ◌<◌, ◌≤◌, List, [], ◌∷◌, ◌++◌, map, length, take, drop, set, get_or, ext_get_or, ℤ, pos, refl, sym, ap, ◌∙◌, arith, append-nil}
use Rattle.std.proofs.Math.Seq.{paste}
use Rattle.std.proofs.lemmas.List.{length-map, length-append, get_or-map, drop_all}
use Rattle.std.proofs.lemmas.List.Edits.{paste_none, paste_more, paste_all, paste-paste}
use Rattle.giotto_check.specs.cited.Slots.{with_range}

-- one more number
pub next_value : {X : Type 0} (value : X → ℤ) (before values : List ℤ) (first slot : ℕ) (xs : List X) (i : ℕ) (x : X) (z : ℤ) → first + length xs ≤ length before → i < length xs
    → x ≡ get_or xs i x → z ≡ value x → slot ≡ first + i → values ≡ paste before first (map value xs) i → set values slot z ≡ paste before first (map value xs) (i + 1)
next_value value before values first slot xs i x z room lt is same at e =
    let number : z ≡ get_or (map value xs) i z = same ∙ ap value is ∙ sym (get_or-map value xs i x z lt) in
    let long = length-map xs value in
    ap (λ vs. set vs slot z) e ∙ ap (λ k. set (paste before first (map value xs) i) k z) at ∙ ap (set (paste before first (map value xs) i) (first + i)) number
    ∙ paste_more before first (map value xs) i z (omega (arith, room, lt)) (omega (arith, lt, long))

-- all numbers
pub range_is : (before : List ℤ) (first : ℕ) (zs : List ℤ) (n : ℕ) → n ≡ length zs → paste before first zs n ≡ with_range before first zs
range_is before first zs n e = paste_all before first zs n e ∙ ap (λ m. take first before ++ (zs ++ drop (first + m) before)) e

pub none_written : (before : List ℤ) (first : ℕ) → before ≡ with_range before first []
none_written before first = paste_none before first [] ∙ range_is before first [] 0 refl

-- more numbers after them
pub range_more : (before values after : List ℤ) (first slot : ℕ) (xs ys : List ℤ) → first + length xs ≤ length before → slot ≡ first + length xs
    → values ≡ with_range before first xs → after ≡ with_range values slot ys → after ≡ with_range before first (xs ++ ys)
range_more before values after first slot xs ys room at e h =
    h ∙ ap (λ k. with_range values k ys) at ∙ ap (λ vs. with_range vs (first + length xs) ys) (e ∙ sym (range_is before first xs (length xs) refl))
    ∙ sym (range_is (paste before first xs (length xs)) (first + length xs) ys (length ys) refl) ∙ paste-paste before first xs ys (length xs) (length ys) refl refl (omega (arith, room))
    ∙ range_is before first (xs ++ ys) (length xs + length ys) (sym (length-append xs ys))

-- as many numbers as there are slots
pub whole_range : (before zs : List ℤ) → length zs ≡ length before → with_range before 0 zs ≡ zs
whole_range before zs e = ap (λ left. zs ++ left) (drop_all (0 + length zs) before (omega (arith, e))) ∙ append-nil zs

-- the values begin with these numbers, and `next` is the slot after them
pub record BeginWith (before zs values : List ℤ) (next : ℕ) : Type 0 where
  pub long : length values ≡ length before
  pub slot : next ≡ length zs
  pub begin : values ≡ with_range before 0 zs

pub begin_none : (before : List ℤ) → BeginWith before [] before 0
begin_none before = record { long = refl; slot = refl; begin = none_written before 0 }

-- the numbers of a list are added after them
pub begin_more : {X : Type 0} (value : X → ℤ) (before values after zs : List ℤ) (first slot : ℕ) (xs : List X) (i : ℕ) → BeginWith before zs values first
    → length after ≡ length values → first + length xs ≤ length values → length xs ≤ i → i ≤ length xs → slot ≡ first + i → after ≡ paste values first (map value xs) i
    → BeginWith before (zs ++ map value xs) after slot
begin_more value before values after zs first slot xs i h same room far end at e =
    let long = length-map xs value in
    let all : i ≡ length (map value xs) = omega (arith, far, end, long) in record {
      long = same ∙ h.long;
      slot = omega (arith, at, h.slot, all, length-append zs (map value xs));
      begin = range_more before values after 0 first zs (map value xs) (omega (arith, room, h.long, h.slot)) (omega (arith, h.slot)) h.begin (e ∙ range_is values first (map value xs) i all);
    }

pub zeros_are : {X : Type 0} (xs : List X) (zs : List ℤ) → length zs ≡ length xs → ((i : ℕ) → i < length zs → get_or zs i (pos 0) ≡ pos 0) → zs ≡ map (λ x. pos 0) xs
zeros_are xs zs long each = ext_get_or (pos 0) zs (map (λ x. pos 0) xs) (long ∙ sym (length-map xs (λ x. pos 0))) (λ i lt. each i lt ∙ sym (constant xs i))
  where
    constant : {X : Type 0} (xs : List X) (i : ℕ) → get_or (map (λ x. pos 0) xs) i (pos 0) ≡ pos 0
    constant [] i = refl
    constant (x ∷ xs) zero = refl
    constant (x ∷ xs) (suc i) = constant xs i

-- What a filter in place leaves after the elements that pass: each element that doesn't pass, in any order.
use Rattle.std.proofs.Common.{◌≡◌, ℕ, ◌+◌, ◌-◌, ◌<◌, ◌≤◌, Bool, true, false, not, cond, ◌||◌, List, [], ◌∷◌, ◌++◌, filter, length, take, drop, get_or, set, refl, sym, ap, ◌∙◌, arith}
use Rattle.std.specs.List.{list_any, SwappedAt}
use Rattle.std.proofs.lemmas.List.{drop-append-le, drop-set-lt, drop-take, drop_all, drop_more, get_or-take, length-take-le, append-nil, length-set, take_more, take-set-le}
use Rattle.std.proofs.lemmas.List.Elements.{filter_more}
use Rattle.std.proofs.lemmas.List.Filters.{FiltersInPlace}
use Rattle.std.proofs.lemmas.List.Folds.{list_any-append}
use Rattle.giotto_tasks.proofs.cited.TestLemmas.{or_turned}

module _ {X : Type 0} (due : X → Bool) (xs ys : List X) (k i : ℕ) where
  -- the elements of `ys` from place `k` up to `i` are those of the first `i` of `xs` that are due
  abbrev pub AreBehind : Type 0
  AreBehind = (test : X → Bool) → list_any test (drop k (take i ys)) ≡ list_any test (filter due (take i xs))

module _ {X : Type 0} (due : X → Bool) (xs ys : List X) (k i : ℕ) (x : X) (h : FiltersInPlace (λ x. not (due x)) xs ys k i) (lt : i < length ys) (is : x ≡ get_or ys i x) (behind : AreBehind due xs ys k i) where
  lt_old : i < length xs
  lt_old = omega (arith, lt, h.long)

  one_more : (b : Bool) → due x ≡ b → filter due (take (i + 1) xs) ≡ filter due (take i xs) ++ cond b (x ∷ []) []
  one_more b e =
      let same : get_or xs i x ≡ x = sym (ap (λ l. get_or l 0 x) (sym (drop_more ys i x lt) ∙ h.rest ∙ drop_more xs i x lt_old)) ∙ sym is in
      filter_more due xs i x lt_old ∙ (λ j. filter due (take i xs) ++ cond (due (same j)) (same j ∷ []) []) ∙ ap (λ c. filter due (take i xs) ++ cond c (x ∷ []) []) e

  -- the next element is due
  pub behind_more : due x ≡ true → AreBehind due xs ys k (i + 1)
  behind_more e = λ test.
      let within : k ≤ length (take i ys) = omega (arith, h.behind, length-take-le i ys (omega (arith, lt))) in
      ap (λ l. list_any test (drop k l)) (take_more ys i x lt ∙ ap (λ y. take i ys ++ y ∷ []) (sym is))
      ∙ ap (list_any test) (drop-append-le k (take i ys) (x ∷ []) within) ∙ list_any-append test (drop k (take i ys)) (x ∷ [])
      ∙ ap (λ b. b || list_any test (x ∷ [])) (behind test) ∙ sym (list_any-append test (filter due (take i xs)) (x ∷ [])) ∙ sym (ap (list_any test) (one_more true e))

  same_due : due x ≡ false → (test : X → Bool) → list_any test (filter due (take i xs)) ≡ list_any test (filter due (take (i + 1) xs))
  same_due e test = sym (ap (list_any test) (one_more false e ∙ append-nil (filter due (take i xs))))

  -- the next element stays where it is
  pub behind_here : due x ≡ false → k ≡ i → AreBehind due xs ys (k + 1) (i + 1)
  behind_here e same = λ test.
      ap (list_any test) (drop_all (k + 1) (take (i + 1) ys) (omega (arith, same, length-take-le (i + 1) ys (omega (arith, lt)))))
      ∙ sym (ap (list_any test) (drop_all k (take i ys) (omega (arith, same, length-take-le i ys (omega (arith, lt))))))
      ∙ behind test ∙ same_due e test

  -- the next element is moved up, and the first due element takes its place
  pub behind_swap : {zs : List X} → due x ≡ false → k < i → SwappedAt ys zs k i → AreBehind due xs zs (k + 1) (i + 1)
  behind_swap {zs} e less s = λ test.
      let v : X = get_or ys k x in
      let m : ℕ = i - (k + 1) in
      let split : k + 1 + m ≡ i = omega (arith, less) in
      let long : length (take i ys) ≡ i = length-take-le i ys (omega (arith, lt)) in
      let lt_new : i < length zs = omega (arith, lt, ap length (s.3 x) ∙ length-set (set ys k (get_or ys i x)) i v ∙ length-set ys k (get_or ys i x)) in
      let long_new : length (take i zs) ≡ i = length-take-le i zs (omega (arith, lt_new)) in
      let between : (l : List X) → drop (k + 1) (take i l) ≡ take m (drop (k + 1) l) = λ l. ap (λ n. drop (k + 1) (take n l)) (sym split) ∙ drop-take (k + 1) m l in
      let unmoved : drop (k + 1) (take i zs) ≡ drop (k + 1) (take i ys) =
      ap (drop (k + 1)) (ap (take i) (s.3 x) ∙ take-set-le i (set ys k (get_or ys i x)) i v (omega arith)) ∙ between (set ys k (get_or ys i x))
      ∙ ap (take m) (drop-set-lt (k + 1) ys k (get_or ys i x) (omega arith)) ∙ sym (between ys) in
      let first : drop k (take i ys) ≡ v ∷ drop (k + 1) (take i ys) = drop_more (take i ys) k x (omega (arith, less, long)) ∙ ap (λ y. y ∷ drop (k + 1) (take i ys)) (get_or-take i ys k x less) in
      ap (λ l. list_any test (drop (k + 1) l)) (take_more zs i x lt_new ∙ ap (λ y. take i zs ++ y ∷ []) (s.1 x))
      ∙ ap (list_any test) (drop-append-le (k + 1) (take i zs) (v ∷ []) (omega (arith, less, long_new)) ∙ ap (λ l. l ++ v ∷ []) unmoved)
      ∙ list_any-append test (drop (k + 1) (take i ys)) (v ∷ []) ∙ or_turned (list_any test (drop (k + 1) (take i ys))) (test v || false) ∙ only (test v) (list_any test (drop (k + 1) (take i ys)))
      ∙ sym (ap (list_any test) first) ∙ behind test ∙ same_due e test
    where
      only : (a b : Bool) → ((a || false) || b) ≡ (a || b)
      only true b = refl
      only false b = refl

-- the result, at the end
pub all_behind : {X : Type 0} (due : X → Bool) (xs ys : List X) (k i : ℕ) → AreBehind due xs ys k i → k ≤ i → (test : X → Bool) → list_any test (take (i - k) (drop k ys)) ≡ list_any test (filter due (take i xs))
all_behind due xs ys k i behind le test = let whole : k + (i - k) ≡ i = omega (arith, le) in ap (list_any test) (sym (drop-take k (i - k) ys) ∙ ap (λ n. drop k (take n ys)) whole) ∙ behind test

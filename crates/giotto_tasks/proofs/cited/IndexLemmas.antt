-- The places of names in a list, as an index keeps them.
use Rattle.std.proofs.Common.{◌≡◌, ℕ, suc, ◌+◌, ◌<◌, Bool, true, false, not, cond, ◌&&◌, ◌||◌, List, [], ◌∷◌, length, drop, get_or, ℤ, pos, Option, Some, None, refl, sym, ap, ◌∙◌, arith}
use Rattle.std.specs.Prelude.{is_some, unwrap_or}
use Rattle.std.specs.List.{zip}
use Rattle.indexmap.specs.IndexMap.{IndexMap, get, Updates}
use Rattle.std.proofs.lemmas.List.{drop_more}
use Rattle.giotto_tasks.specs.declared.names.Name.{Name}
use Rattle.giotto_tasks.specs.cited.DriverCode.{number_at}
use Rattle.giotto_tasks.specs.Names.{same_name, is_among, value_at, value_or_zero}
use Rattle.giotto_tasks.specs.cited.Places.{place_from, HasPlaces}
use Rattle.giotto_tasks.specs.Sound.{all_different}

-- a name has a place exactly if it is among the names
pub is_some-place_from : (i : ℕ) (names : List Name) (x : Name) → is_some (place_from i names x) ≡ is_among names x
is_some-place_from i [] x = refl
is_some-place_from i (n ∷ ns) x = at_head (same_name n x) (is_some-place_from (i + 1) ns x)
  where
    at_head : (b : Bool) → is_some (place_from (i + 1) ns x) ≡ is_among ns x → is_some (cond b (Some i) (place_from (i + 1) ns x)) ≡ (b || is_among ns x)
    at_head true rest = refl
    at_head false rest = rest

-- one more name at the front
pub places_before : {S : Type 0} (names : List Name) (i v : ℕ) (name : Name) (old new : IndexMap Name ℕ S) → i < length names → name ≡ get_or names i name → v ≡ i
    → HasPlaces (i + 1) (drop (i + 1) names) old → Updates same_name old new name (Some v) → HasPlaces i (drop i names) new
places_before names i v name old new within is at has updates = λ q.
    let here = updates.0 q in
    let before = ap (λ r. cond (same_name name q) (Some v) r) (has q) in
    let placed = ap (λ j. cond (same_name name q) (Some j) (place_from (i + 1) (drop (i + 1) names) q)) at in
    let named = ap (λ n. cond (same_name n q) (Some i) (place_from (i + 1) (drop (i + 1) names) q)) is in
    let front = ap (λ xs. place_from i xs q) (sym (drop_more names i name within)) in
    here ∙ (before ∙ (placed ∙ (named ∙ front)))

-- the names are still different if the map didn't have the one at the front
pub different_before : {S : Type 0} (names : List Name) (i : ℕ) (name : Name) (places : IndexMap Name ℕ S) (old : Option ℕ) (first different : Bool) → i < length names
    → name ≡ get_or names i name → HasPlaces (i + 1) (drop (i + 1) names) places → old ≡ get same_name places name → is_some old ≡ not first
    → different ≡ all_different (drop (i + 1) names) → (first && different) ≡ all_different (drop i names)
different_before names i name places old first different within is has was found others =
    let rest = drop (i + 1) names in
    let among = sym found ∙ (ap is_some was ∙ (ap is_some (has name) ∙ is_some-place_from (i + 1) rest name)) in
    let turned = sym (not_not first) ∙ ap not among in
    let front = ap all_different (drop_more names i name within) in
    let named = ap (λ n. not (is_among rest n) && all_different rest) is in
    ap (λ b. b && different) turned ∙ (ap (λ b. not (is_among rest name) && b) others ∙ (named ∙ sym front))
  where
    not_not : (b : Bool) → not (not b) ≡ b
    not_not true = refl
    not_not false = refl

-- the value of a name, by its place
placed_from : (i : ℕ) (names : List Name) (values : List ℤ) (x : Name) (k : ℕ) → place_from i names x ≡ Some k
    → (j : ℕ) × (k ≡ i + j) × (value_or_zero (zip names values) x ≡ number_at values j)
placed_from i [] values x k e = absurd (cc)
placed_from i (n ∷ ns) [] x k e = at_head (same_name n x) e (placed_from (i + 1) ns [] x k)
  where
    at_head : (b : Bool) → cond b (Some i) (place_from (i + 1) ns x) ≡ Some k
        → (place_from (i + 1) ns x ≡ Some k → (j : ℕ) × (k ≡ i + 1 + j) × (value_or_zero (zip ns []) x ≡ number_at [] j))
        → (j : ℕ) × (k ≡ i + j) × (pos 0 ≡ number_at [] j)
    at_head true e rest = let same : i ≡ k = cc in (0, omega (arith, same), refl)
    at_head false e rest = let there = rest e in (suc there.0, omega (arith, there.1), refl)
placed_from i (n ∷ ns) (v ∷ vs) x k e = at_head (same_name n x) e (placed_from (i + 1) ns vs x k)
  where
    at_head : (b : Bool) → cond b (Some i) (place_from (i + 1) ns x) ≡ Some k
        → (place_from (i + 1) ns x ≡ Some k → (j : ℕ) × (k ≡ i + 1 + j) × (value_or_zero (zip ns vs) x ≡ number_at vs j))
        → (j : ℕ) × (k ≡ i + j) × (unwrap_or (cond b (Some v) (value_at (zip ns vs) x)) (pos 0) ≡ number_at (v ∷ vs) j)
    at_head true e rest = let same : i ≡ k = cc in (0, omega (arith, same), refl)
    at_head false e rest = let there = rest e in (suc there.0, omega (arith, there.1), there.2)

pub placed_value : (names : List Name) (values : List ℤ) (x : Name) (k : ℕ) → place_from 0 names x ≡ Some k → value_or_zero (zip names values) x ≡ number_at values k
placed_value names values x k e =
    let there = placed_from 0 names values x k e in
    let place : there.0 ≡ k = omega (arith, there.1) in
    there.2 ∙ ap (number_at values) place

-- a name without a place has no value
pub unplaced_value : (i : ℕ) (names : List Name) (values : List ℤ) (x : Name) → place_from i names x ≡ None → value_or_zero (zip names values) x ≡ pos 0
unplaced_value i [] values x e = refl
unplaced_value i (n ∷ ns) [] x e = refl
unplaced_value i (n ∷ ns) (v ∷ vs) x e = at_head (same_name n x) e (unplaced_value (i + 1) ns vs x)
  where
    at_head : (b : Bool) → cond b (Some i) (place_from (i + 1) ns x) ≡ None → (place_from (i + 1) ns x ≡ None → value_or_zero (zip ns vs) x ≡ pos 0)
        → unwrap_or (cond b (Some v) (value_at (zip ns vs) x)) (pos 0) ≡ pos 0
    at_head true e rest = absurd (cc)
    at_head false e rest = rest e

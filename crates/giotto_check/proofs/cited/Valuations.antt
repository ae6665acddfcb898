-- Maps from names to values, as lists of values by place.
use Rattle.std.proofs.Common.{◌≡◌, ℕ, zero, suc, ◌+◌, ◌-◌, ◌<◌, ◌≤◌, Bool, true, false, not, cond, ℤ, pos, List, [], ◌∷◌, ◌++◌, length, map, take, drop, get_or, set, Some, unwrap_or, refl, sym, ap, ◌∙◌, append_assoc, add-one, arith}
use Rattle.std.specs.Prelude.{slice_get, slice_range}
use Rattle.std.specs.List.{zip, range_with_len}
use Rattle.std.proofs.lemmas.Bool.{and_parts, or_left, or_right, false≢true}
use Rattle.std.proofs.lemmas.List.{drop_more, drop-set-lt, length-set, take-append-drop}
use Rattle.std.proofs.lemmas.Option.{slice_get_within}
use Rattle.std.proofs.Math.Seq.{take-suc-set}
use Rattle.giotto_tasks.specs.declared.names.Name.{Name}
use Rattle.giotto_tasks.specs.Names.{same_name, is_among, value_at, value_or_zero, with_value, values_of}
use Rattle.giotto_tasks.specs.Sound.{all_different}
use Rattle.giotto_tasks.proofs.cited.NameLemmas.{same_name_self, same_name_is}
use Rattle.giotto_rules.specs.text.PortNames.{with_values}
use Rattle.giotto_check.specs.cited.Slots.{with_slots, with_range}

-- a name at a place of a list is among its names
there : (ns : List Name) (k : ℕ) (n : Name) → slice_get ns k ≡ Some n → is_among ns n ≡ true
there [] k n at = absurd (cc)
there (m ∷ ms) zero n at = let same : m ≡ n = cc in or_left (same_name m n) (is_among ms n) (ap (same_name m) (sym same) ∙ same_name_self m)
there (m ∷ ms) (suc k) n at = or_right (same_name m n) (is_among ms n) (there ms k n at)

-- so it differs from a name that isn't in the list
apart : (m : Name) (ms : List Name) (k : ℕ) (n : Name) → not (is_among ms m) ≡ true → slice_get ms k ≡ Some n → same_name m n ≡ false
apart m ms k n none at = by (same_name m n) refl
  where
    by : (b : Bool) → same_name m n ≡ b → b ≡ false
    by false e = refl
    by true e = let same : m ≡ n = same_name_is m n e in absurd (false≢true (sym (ap (λ x. not (is_among ms x)) same ∙ ap not (there ms k n at)) ∙ none))

-- if all names are different, a name's value is at its place
pub value_at_place : (ns : List Name) (vs : List ℤ) (k : ℕ) (n : Name) → all_different ns ≡ true → slice_get ns k ≡ Some n → value_at (zip ns vs) n ≡ slice_get vs k
value_at_place [] vs k n different at = absurd (cc)
value_at_place (m ∷ ms) [] k n different at = refl
value_at_place (m ∷ ms) (v ∷ vs) zero n different at =
    let same : m ≡ n = cc in ap (λ b. cond b (Some v) (value_at (zip ms vs) n)) (ap (same_name m) (sym same) ∙ same_name_self m)
value_at_place (m ∷ ms) (v ∷ vs) (suc k) n different at =
    let both = and_parts (not (is_among ms m)) (all_different ms) different in
    ap (λ b. cond b (Some v) (value_at (zip ms vs) n)) (apart m ms k n both.0 at) ∙ value_at_place ms vs k n both.1 at

-- if all names are different, a name's value is changed at its place
pub with_value_at_place : (ns : List Name) (vs : List ℤ) (k : ℕ) (n : Name) (z : ℤ) → all_different ns ≡ true → slice_get ns k ≡ Some n → length ns ≡ length vs
    → with_value (zip ns vs) n z ≡ zip ns (set vs k z)
with_value_at_place [] vs k n z different at long = absurd (cc)
with_value_at_place (m ∷ ms) [] k n z different at long = absurd (omega (arith, long))
with_value_at_place (m ∷ ms) (v ∷ vs) zero n z different at long =
    let same : m ≡ n = cc in ap (λ b. cond b ((m, z) ∷ zip ms vs) ((m, v) ∷ with_value (zip ms vs) n z)) (ap (same_name m) (sym same) ∙ same_name_self m)
with_value_at_place (m ∷ ms) (v ∷ vs) (suc k) n z different at long =
    let both = and_parts (not (is_among ms m)) (all_different ms) different in
    ap (λ b. cond b ((m, z) ∷ zip ms vs) ((m, v) ∷ with_value (zip ms vs) n z)) (apart m ms k n both.0 at)
    ∙ ap (λ r. (m, v) ∷ r) (with_value_at_place ms vs k n z both.1 at (omega (arith, long)))

-- several values are changed, one after the other
pub with_values_at_places : (ns : List Name) (vs : List ℤ) (xs : List Name) (ks : List ℕ) (zs : List ℤ) → all_different ns ≡ true → map (slice_get ns) ks ≡ map Some xs → length ns ≡ length vs
    → with_values (zip ns vs) xs zs ≡ zip ns (with_slots vs ks zs)
with_values_at_places ns vs [] [] zs different at long = refl
with_values_at_places ns vs [] (k ∷ ks) zs different at long = absurd (cc)
with_values_at_places ns vs (x ∷ xs) [] zs different at long = absurd (cc)
with_values_at_places ns vs (x ∷ xs) (k ∷ ks) [] different at long = refl
with_values_at_places ns vs (x ∷ xs) (k ∷ ks) (z ∷ zs) different at long =
    let first : slice_get ns k ≡ Some x = cc in
    let rest : map (slice_get ns) ks ≡ map Some xs = cc in
    ap (λ m. with_values m xs zs) (with_value_at_place ns vs k x z different first long)
    ∙ with_values_at_places ns (set vs k z) xs ks zs different rest (omega (arith, long, length-set vs k z))

-- the values of consecutive names
pub values_in_range : (ns : List Name) (vs : List ℤ) (xs : List Name) (first : ℕ) → all_different ns ≡ true → map (slice_get ns) (range_with_len first (length xs)) ≡ map Some xs → length ns ≡ length vs
    → values_of (zip ns vs) xs ≡ slice_range vs first (first + length xs)
values_in_range ns vs [] first different at long = let none : first + 0 - first ≡ 0 = omega arith in sym (ap (λ n. take n (drop first vs)) none)
values_in_range ns vs (x ∷ xs) first different at long =
    let here : slice_get ns first ≡ Some x = cc in
    let rest : map (slice_get ns) (range_with_len (first + 1) (length xs)) ≡ map Some xs = cc in
    let lt : first < length vs = omega (arith, slice_get_within ns first x here, long) in
    let more : first + suc (length xs) - first ≡ suc (first + 1 + length xs - (first + 1)) = omega arith in
    let value : value_or_zero (zip ns vs) x ≡ get_or vs first (pos 0) = ap (λ o. unwrap_or o (pos 0)) (value_at_place ns vs first x different here) ∙ read vs first lt in
    rw value (ap (λ zs. get_or vs first (pos 0) ∷ zs) (values_in_range ns vs xs (first + 1) different rest long)
    ∙ sym (ap (λ n. take n (drop first vs)) more ∙ ap (take (suc (first + 1 + length xs - (first + 1)))) (drop_more vs first (pos 0) lt)))
  where
    read : (vs : List ℤ) (i : ℕ) → i < length vs → unwrap_or (slice_get vs i) (pos 0) ≡ get_or vs i (pos 0)
    read [] i lt = absurd (omega arith)
    read (v ∷ vs) zero lt = refl
    read (v ∷ vs) (suc i) lt = read vs i (omega arith)

-- numbers at consecutive places are a range
pub slots_are_range : (vs : List ℤ) (first : ℕ) (zs : List ℤ) → first + length zs ≤ length vs → with_slots vs (range_with_len first (length zs)) zs ≡ with_range vs first zs
slots_are_range vs first [] le = let none : first + 0 ≡ first = omega arith in sym (ap (λ n. take first vs ++ drop n vs) none ∙ take-append-drop first vs)
slots_are_range vs first (z ∷ zs) le =
    let front : take (first + 1) (set vs first z) ≡ take first vs ++ z ∷ [] = ap (λ n. take n (set vs first z)) (add-one first) ∙ take-suc-set vs first z (omega (arith, le)) in
    let next : first + 1 + length zs ≡ first + suc (length zs) = omega arith in
    let back : drop (first + 1 + length zs) (set vs first z) ≡ drop (first + suc (length zs)) vs = drop-set-lt (first + 1 + length zs) vs first z (omega arith) ∙ ap (λ n. drop n vs) next in
    slots_are_range (set vs first z) (first + 1) zs (omega (arith, le, length-set vs first z))
    ∙ rw (front, back) (append_assoc (take first vs) (z ∷ []) (zs ++ drop (first + suc (length zs)) vs))

-- the values of consecutive names, all changed
pub with_values_in_range : (ns : List Name) (vs : List ℤ) (xs : List Name) (first : ℕ) (zs : List ℤ) → all_different ns ≡ true → map (slice_get ns) (range_with_len first (length xs)) ≡ map Some xs
    → length ns ≡ length vs → length zs ≡ length xs → with_values (zip ns vs) xs zs ≡ zip ns (with_range vs first zs)
with_values_in_range ns vs [] first [] different at long same =
    let none : first + 0 ≡ first = omega arith in
    ap (zip ns) (sym (ap (λ n. take first vs ++ drop n vs) none ∙ take-append-drop first vs))
with_values_in_range ns vs [] first (z ∷ zs) different at long same = absurd (omega (arith, same))
with_values_in_range ns vs (x ∷ xs) first zs different at long same =
    with_values_at_places ns vs (x ∷ xs) (range_with_len first (length (x ∷ xs))) zs different at long
    ∙ ap (zip ns) (ap (λ n. with_slots vs (range_with_len first n) zs) (sym same) ∙ slots_are_range vs first zs (omega (arith, within first (x ∷ xs) at (omega arith), same, long)))
  where
    within : (k : ℕ) (ys : List Name) → map (slice_get ns) (range_with_len k (length ys)) ≡ map Some ys → 0 < length ys → k + length ys ≤ length ns
    within k [] at lt = absurd (omega arith)
    within k (y ∷ []) at lt = let here : slice_get ns k ≡ Some y = cc in omega (arith, slice_get_within ns k y here)
    within k (y ∷ (w ∷ ys)) at lt =
        let rest : map (slice_get ns) (range_with_len (k + 1) (length (w ∷ ys))) ≡ map Some (w ∷ ys) = cc in
        omega (arith, within (k + 1) (w ∷ ys) rest (omega arith))

-- Values that are granted through binds, taken one after the other.
use Rattle.std.proofs.Common.{◌≡◌, ◌⊎◌, inl, inr, ℕ, zero, suc, ◌+◌, ◌<◌, ◌≤◌, Bool, true, false, ℤ, List, [], ◌∷◌, ◌++◌, length, take, get_or, set, Option, Some, None, IsSome, option_map, slice_get, refl, sym, ap, ◌∙◌, subst, arith}
use Rattle.std.specs.List.{AllByRecursion, IsDistinct, filter_map, cons_option, zip}
use Rattle.std.specs.Option.{option_and_then}
use Rattle.std.proofs.lemmas.List.{get_or_default, set-get_or}
use Rattle.giotto_tasks.specs.declared.names.Name.{Name}
use Rattle.giotto_tasks.specs.cited.Sources.{names_in}
use Rattle.giotto_tasks.specs.Names.{Valuation, is_among, same_name}
use Rattle.giotto_tasks.proofs.cited.NameLemmas.{same_name_self, same_name_is}
use Rattle.rig_model.specs.text.Program.{GiottoProgram}
use Rattle.tenant_slots.specs.well_formed.cited.Slots.{PortNamesDiffer}
use Rattle.rig_model.specs.grants.Grants.{bind_at, with_place, place_in}
use Rattle.rig_model.specs.grants.Kept.{same_bind}
use Rattle.rig_model.specs.declared.grants.rows.Bind.{Bind}
use Rattle.rig_model.specs.Readings.{Readings}
use Rattle.tenant_slots.specs.cited.Grants.{with_granted}
use Rattle.tenant_slots.specs.cited.Readings.{with_readings}
use Rattle.tenant_slots.proofs.cited.Granted.{found_last, granted_more}
use Rattle.rig_model.specs.Granted.{granted_along, granted_through}

-- what the first `i` binds grant
abbrev pub granted_before : ℕ → List Bind → List (Option ℤ) → Valuation
granted_before i binds values = filter_map granted_through (take i (zip binds values))

-- the first `i` binds are all of them, if no place is left
granted_by_all : (i : ℕ) (binds : List Bind) (values : List (Option ℤ)) → (length binds ≤ i) ⊎ (length values ≤ i) → granted_before i binds values ≡ granted_along binds values
granted_by_all zero [] values ends = refl
granted_by_all (suc i) [] values ends = refl
granted_by_all zero (b ∷ bs) [] ends = refl
granted_by_all (suc i) (b ∷ bs) [] ends = refl
granted_by_all zero (b ∷ bs) (v ∷ vs) (inl end) = absurd (omega (arith, end))
granted_by_all zero (b ∷ bs) (v ∷ vs) (inr end) = absurd (omega (arith, end))
granted_by_all (suc i) (b ∷ bs) (v ∷ vs) (inl end) = ap (cons_option (granted_through (b, v))) (granted_by_all i bs vs (inl (omega (arith, end))))
granted_by_all (suc i) (b ∷ bs) (v ∷ vs) (inr end) = ap (cons_option (granted_through (b, v))) (granted_by_all i bs vs (inr (omega (arith, end))))

-- a bind without a granted value
granted_none : (i : ℕ) (binds : List Bind) (values : List (Option ℤ)) → get_or values i None ≡ None → granted_before (suc i) binds values ≡ granted_before i binds values
granted_none zero [] values at = refl
granted_none (suc i) [] values at = refl
granted_none zero (b ∷ bs) [] at = refl
granted_none (suc i) (b ∷ bs) [] at = refl
granted_none zero (b ∷ bs) (None ∷ vs) at = refl
granted_none zero (b ∷ bs) (Some z ∷ vs) at = cc
granted_none (suc i) (b ∷ bs) (v ∷ vs) at = ap (cons_option (granted_through (b, v))) (granted_none i bs vs at)

-- a bind with a granted value
granted_one : (i : ℕ) (binds : List Bind) (values : List (Option ℤ)) (b : Bind) (z : ℤ) → slice_get binds i ≡ Some b → get_or values i None ≡ Some z
    → granted_before (suc i) binds values ≡ granted_before i binds values ++ (b.sensor, z) ∷ []
granted_one i [] values b z bound at = cc
granted_one zero (c ∷ bs) [] b z bound at = cc
granted_one (suc i) (c ∷ bs) [] b z bound at = cc
granted_one zero (c ∷ bs) (None ∷ vs) b z bound at = cc
granted_one zero (c ∷ bs) (Some y ∷ vs) b z bound at =
    let same : c ≡ b = cc in
    let value : y ≡ z = cc in
    rw (same, value) refl
granted_one (suc i) (c ∷ bs) (v ∷ vs) b z bound at = ap (cons_option (granted_through (c, v))) (granted_one i bs vs b z bound at) ∙ by v
  where
    by : (v : Option ℤ) → cons_option (granted_through (c, v)) (granted_before i bs vs ++ (b.sensor, z) ∷ []) ≡ cons_option (granted_through (c, v)) (granted_before i bs vs) ++ (b.sensor, z) ∷ []
    by None = refl
    by (Some y) = refl

-- if the sensors are different, no earlier bind has the sensor of this one
other_sensors : (c b : Bind) (bs : List Bind) (i : ℕ) → AllByRecursion (λ d. same_bind c d ≡ false) bs → slice_get bs i ≡ Some b → same_name c.sensor b.sensor ≡ false
other_sensors c b [] i all bound = cc
other_sensors c b (d ∷ bs) (suc i) all bound = other_sensors c b bs i all.1 bound
other_sensors c b (d ∷ bs) zero all bound = by (same_name c.sensor b.sensor) refl
  where
    by : (t : Bool) → same_name c.sensor b.sensor ≡ t → same_name c.sensor b.sensor ≡ false
    by false e = e
    by true e =
        let one : d ≡ b = cc in
        let same : c.sensor ≡ b.sensor = same_name_is c.sensor b.sensor e in
        let differ : same_name b.sensor c.sensor ≡ false = subst (λ (d : Bind). same_name d.sensor c.sensor ≡ false) one all.0 in
        let again : same_name b.sensor b.sensor ≡ false = subst (λ x. same_name b.sensor x ≡ false) same differ in
        absurd (cc (again, same_name_self b.sensor))

not_before : (i : ℕ) (binds : List Bind) (values : List (Option ℤ)) (b : Bind) → IsDistinct same_bind binds → slice_get binds i ≡ Some b → is_among (names_in (granted_before i binds values)) b.sensor ≡ false
unfolding IsDistinct
not_before i [] values b differ bound = cc
not_before zero (c ∷ bs) [] b differ bound = refl
not_before (suc i) (c ∷ bs) [] b differ bound = refl
not_before zero (c ∷ bs) (v ∷ vs) b differ bound = refl
not_before (suc i) (c ∷ bs) (None ∷ vs) b differ bound = not_before i bs vs b differ.1 bound
not_before (suc i) (c ∷ bs) (Some z ∷ vs) b differ bound = rw (other_sensors c b bs i differ.0 bound) (not_before i bs vs b differ.1 bound)

-- the sensor of a bind that is given with its place
abbrev first_of : Option (Name × ℕ × Name) → Name
first_of None = []
first_of (Some t) = t.0

bind_of_sensor : (roster : List Name) (binds : List Bind) (i : ℕ) (x y : Name) (u : ℕ) → bind_at roster binds i ≡ Some (x, u, y) → (b : Bind) × (slice_get binds i ≡ Some b) × (b.sensor ≡ x)
bind_of_sensor roster binds i x y u at = by (slice_get binds i) refl at
  where
    placed : (b : Bind) (o : Option ℕ) → option_map {U = Name × ℕ × Name} (λ (v : ℕ). (b.sensor, v, b.actuator)) o ≡ Some (x, u, y) → b.sensor ≡ x
    placed b None e = cc
    placed b (Some v) e = ap first_of e

    by : (o : Option Bind) → slice_get binds i ≡ o → option_and_then (with_place roster) o ≡ Some (x, u, y) → (b : Bind) × (slice_get binds i ≡ Some b) × (b.sensor ≡ x)
    by None is e = cc
    by (Some b) is e = (b, is, placed b (place_in roster b.tenant) e)

-- a place without a value is past the end
pub none_past : {A : Type 0} (o : Option A) (i n : ℕ) → o ≡ None → (i < n → IsSome o) → n ≤ i
none_past o i zero none found = omega arith
none_past o (suc i) (suc n) none found = let rest : n ≤ i = none_past o i n none (λ h. found (omega (arith, h))) in omega (arith, rest)
none_past {A} o zero (suc n) none found = absurd (no o none (found (omega arith)))
  where
    no : (o : Option A) → o ≡ None → IsSome o → ⊥
    no None none some = cc
    no (Some x) none some = cc

-- the value that is read at a place is the one stored there
pub what_stands : (values now : List (Option ℤ)) (i : ℕ) (d v w : Option ℤ) → now ≡ values → i < length now → v ≡ get_or now i d → v ≡ w → get_or values i None ≡ w
what_stands values now i d v w same lt told found = ap (λ vs. get_or vs i None) (sym same) ∙ sym (told ∙ get_or_default now i d None lt) ∙ found

-- writing a place's own value changes nothing
pub written_as_it_stands : (values now : List (Option ℤ)) (i : ℕ) (d v : Option ℤ) → now ≡ values → v ≡ get_or now i d → set now i v ≡ values
written_as_it_stands values now i d v same told = ap (set now i) told ∙ set-get_or now i d ∙ same

module _ (p : GiottoProgram) (readings : Readings) (ports : Valuation) (binds : List Bind) (values : List (Option ℤ)) (i : ℕ) where
  one_further : with_readings p readings (granted_before (suc i) binds values) ports ≡ with_readings p readings (granted_before (i + 1) binds values) ports
  one_further = let on : suc i ≡ i + 1 = omega arith in ap (λ n. with_readings p readings (granted_before n binds values) ports) on

  -- nothing to take
  pub nothing_taken : get_or values i None ≡ None → with_readings p readings (granted_before i binds values) ports ≡ with_readings p readings (granted_before (i + 1) binds values) ports
  nothing_taken at = ap (λ granted. with_readings p readings granted ports) (sym (granted_none i binds values at)) ∙ one_further

  -- a value to take, by the sensor of its bind
  pub value_taken : (roster : List Name) (x y : Name) (u : ℕ) (z : ℤ) → PortNamesDiffer p → IsDistinct same_bind binds → bind_at roster binds i ≡ Some (x, u, y) → get_or values i None ≡ Some z
      → with_granted p x z (with_readings p readings (granted_before i binds values) ports) ≡ with_readings p readings (granted_before (i + 1) binds values) ports
  value_taken roster x y u z different differ bound at =
      let it = bind_of_sensor roster binds i x y u bound in
      let granted = granted_before i binds values in
      subst (λ s. with_granted p s z (with_readings p readings granted ports) ≡ with_readings p readings (granted_before (i + 1) binds values) ports) it.2
      (granted_more p readings granted (granted ++ (it.0.sensor, z) ∷ []) ports it.0.sensor z different (found_last granted it.0.sensor z (not_before i binds values it.0 differ it.1))
      ∙ ap (λ after. with_readings p readings after ports) (sym (granted_one i binds values it.0 z it.1 at))
      ∙ one_further)

  -- everything is taken
  pub all_taken : (length binds ≤ i) ⊎ (length values ≤ i) → with_readings p readings (granted_before i binds values) ports ≡ with_readings p readings (granted_along binds values) ports
  all_taken ends = ap (λ granted. with_readings p readings granted ports) (granted_by_all i binds values ends)

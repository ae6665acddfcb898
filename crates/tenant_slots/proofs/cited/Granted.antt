-- Granted values, taken after the readings.
use Rattle.std.proofs.Common.{◌≡◌, ℕ, ◌+◌, ◌<◌, Bool, true, false, not, cond, ◌&&◌, ◌||◌, ℤ, List, [], ◌∷◌, ◌++◌, length, map, Some, None, unwrap_or, refl, sym, ap, ◌∙◌, append_assoc, arith}
use Rattle.std.specs.Prelude.{slice_get, slice_set}
use Rattle.std.specs.List.{list_any, position_from}
use Rattle.std.specs.Option.{option_map}
use Rattle.std.specs.Cmp.Lexicographic.{nat_list_eq_equiv}
use Rattle.std.proofs.lemmas.Bool.{and_parts, or_left, or_right, false≢true}
use Rattle.std.proofs.lemmas.List.{append-nil, length-map}
use Rattle.std.proofs.lemmas.Option.{slice_get-map, slice_get_within}
use Rattle.giotto_tasks.specs.declared.names.Name.{Name}
use Rattle.giotto_tasks.specs.cited.Sources.{names_in}
use Rattle.giotto_tasks.specs.Names.{Valuation, same_name, is_among, value_at, with_value}
use Rattle.giotto_tasks.specs.Sound.{all_different}
use Rattle.giotto_tasks.proofs.cited.NameLemmas.{same_name_self, same_name_is, different_first}
use Rattle.giotto_tasks.proofs.cited.TestLemmas.{either}
use Rattle.rig_model.specs.text.PortNames.{with_values}
use Rattle.rig_model.specs.text.Program.{Source, from_line, from_grant, SensorDeclaration, GiottoProgram}
use Rattle.rig_model.specs.text.ProgramTrees.{sensor_of}
use Rattle.rig_model.specs.declared.text.programs.Sensor.{Sensor}
use Rattle.rig_model.specs.rules.Declarations.{sensor_names, actuator_names, output_names, driver_ports}
use Rattle.giotto_check.specs.cited.Slots.{PortNamesDiffer, slots_of}
use Rattle.giotto_check.specs.Slots.{port_names, valuation_of}
use Rattle.rig_model.specs.rules.Ports.{ports_of, shown_name}
use Rattle.giotto_check.proofs.cited.PlaceLemmas.{passes_there, place-map}
use Rattle.giotto_check.proofs.cited.SlotLemmas.{port_names_begin}
use Rattle.giotto_check.proofs.cited.Valuations.{with_value_at_place}
use Rattle.rig_model.specs.Readings.{Readings, reading_from, reading_taken}
use Rattle.tenant_slots.specs.cited.Grants.{is_grant, takes_granted, with_granted, with_each_granted}
use Rattle.tenant_slots.specs.cited.Readings.{with_readings}
use Rattle.tenant_slots.proofs.PlacedOnce.{placed_first}
use Rattle.tenant_slots.proofs.SensedSlots.{sensor_there}

-- maps in which names are given values

twice_given : (m : Valuation) (x : Name) (a b : ℤ) → with_value (with_value m x a) x b ≡ with_value m x b
twice_given [] x a b = ap (λ t. cond t ((x, b) ∷ []) ((x, a) ∷ (x, b) ∷ [])) (same_name_self x)
twice_given (v ∷ vs) x a b = by (same_name v.0 x) refl (twice_given vs x a b)
  where
    by : (t : Bool) → same_name v.0 x ≡ t → with_value (with_value vs x a) x b ≡ with_value vs x b
        → with_value (cond t ((v.0, a) ∷ vs) (v ∷ with_value vs x a)) x b ≡ cond t ((v.0, b) ∷ vs) (v ∷ with_value vs x b)
    by true e rest = ap (λ t. cond t ((v.0, b) ∷ vs) ((v.0, a) ∷ with_value vs x b)) e
    by false e rest = ap (λ t. cond t ((v.0, b) ∷ with_value vs x a) (v ∷ with_value (with_value vs x a) x b)) e ∙ ap (λ r. v ∷ r) rest

given_there : (m : Valuation) (x : Name) (z : ℤ) → is_among (names_in (with_value m x z)) x ≡ true
given_there [] x z = or_left (same_name x x) false (same_name_self x)
given_there (v ∷ vs) x z = by (same_name v.0 x) refl (given_there vs x z)
  where
    by : (t : Bool) → same_name v.0 x ≡ t → is_among (names_in (with_value vs x z)) x ≡ true → is_among (names_in (cond t ((v.0, z) ∷ vs) (v ∷ with_value vs x z))) x ≡ true
    by true e rest = or_left (same_name v.0 x) (is_among (names_in vs) x) e
    by false e rest = or_right (same_name v.0 x) (is_among (names_in (with_value vs x z)) x) rest

still_there : (m : Valuation) (x y : Name) (z : ℤ) → is_among (names_in m) x ≡ true → is_among (names_in (with_value m y z)) x ≡ true
still_there [] x y z there = absurd (false≢true there)
still_there (v ∷ vs) x y z there = by (same_name v.0 y) (still_there vs x y z)
  where
    by : (t : Bool) → (is_among (names_in vs) x ≡ true → is_among (names_in (with_value vs y z)) x ≡ true) → is_among (names_in (cond t ((v.0, z) ∷ vs) (v ∷ with_value vs y z))) x ≡ true
    by true rest = there
    by false rest =
        let on = is_among (names_in (with_value vs y z)) x in
        either (same_name v.0 x) (is_among (names_in vs) x) ((same_name v.0 x || on) ≡ true) there (λ e. or_left (same_name v.0 x) on e) (λ e. or_right (same_name v.0 x) on (rest e))

-- two names may be given their values in either order, if one of them is in the map
turned : (m : Valuation) (x y : Name) (a b : ℤ) → is_among (names_in m) x ≡ true → same_name y x ≡ false → with_value (with_value m y b) x a ≡ with_value (with_value m x a) y b
turned [] x y a b there other = absurd (false≢true there)
turned (v ∷ vs) x y a b there other = by (same_name v.0 x) (same_name v.0 y) refl refl there (λ h. turned vs x y a b h other)
  where
    by : (s t : Bool) → same_name v.0 x ≡ s → same_name v.0 y ≡ t → (s || is_among (names_in vs) x) ≡ true
        → (is_among (names_in vs) x ≡ true → with_value (with_value vs y b) x a ≡ with_value (with_value vs x a) y b)
        → with_value (cond t ((v.0, b) ∷ vs) (v ∷ with_value vs y b)) x a ≡ with_value (cond s ((v.0, a) ∷ vs) (v ∷ with_value vs x a)) y b
    by true true e f h rest = absurd (false≢true (sym other ∙ ap (λ n. same_name n x) (sym (same_name_is v.0 y f)) ∙ e))
    by true false e f h rest =
        ap (λ s. cond s ((v.0, a) ∷ with_value vs y b) (v ∷ with_value (with_value vs y b) x a)) e ∙ sym (ap (λ t. cond t ((v.0, b) ∷ vs) ((v.0, a) ∷ with_value vs y b)) f)
    by false true e f h rest =
        ap (λ s. cond s ((v.0, a) ∷ vs) ((v.0, b) ∷ with_value vs x a)) e ∙ sym (ap (λ t. cond t ((v.0, b) ∷ with_value vs x a) (v ∷ with_value (with_value vs x a) y b)) f)
    by false false e f h rest =
        ap (λ s. cond s ((v.0, a) ∷ with_value vs y b) (v ∷ with_value (with_value vs y b) x a)) e ∙ ap (λ r. v ∷ r) (rest h)
        ∙ sym (ap (λ t. cond t ((v.0, b) ∷ with_value vs x a) (v ∷ with_value (with_value vs x a) y b)) f)

neither : (a b : Bool) → not (a || b) ≡ true → (a ≡ false) × (not b ≡ true)
neither true b h = absurd (false≢true h)
neither false b h = (refl, h)

-- a name in the map may be given its value before the others or after them
before_others : (m : Valuation) (xs : List Name) (zs : List ℤ) (x : Name) (z : ℤ) → is_among (names_in m) x ≡ true → not (is_among xs x) ≡ true
    → with_value (with_values m xs zs) x z ≡ with_values (with_value m x z) xs zs
before_others m [] zs x z there none = refl
before_others m (y ∷ ys) [] x z there none = refl
before_others m (y ∷ ys) (v ∷ vs) x z there none =
    let apart = neither (same_name y x) (is_among ys x) none in
    before_others (with_value m y v) ys vs x z (still_there m x y v there) apart.1 ∙ ap (λ n. with_values n ys vs) (turned m x y z v there apart.0)

-- one more value among the granted ones

-- after values of other names it is found just as it would be before them
pub found_last : (granted : Valuation) (x : Name) (z : ℤ) → is_among (names_in granted) x ≡ false → (n : Name) → value_at (granted ++ (x, z) ∷ []) n ≡ value_at ((x, z) ∷ granted) n
found_last [] x z none n = refl
found_last (g ∷ gs) x z none n = by (same_name g.0 n) (same_name x n) refl refl (found_last gs x z)
  where
    by : (s t : Bool) → same_name g.0 n ≡ s → same_name x n ≡ t → (is_among (names_in gs) x ≡ false → (n : Name) → value_at (gs ++ (x, z) ∷ []) n ≡ value_at ((x, z) ∷ gs) n)
        → cond s (Some g.1) (value_at (gs ++ (x, z) ∷ []) n) ≡ cond t (Some z) (cond s (Some g.1) (value_at gs n))
    by true true e f rest =
        let same : g.0 ≡ x = same_name_is g.0 n e ∙ sym (same_name_is x n f) in
        absurd (false≢true (sym none ∙ or_left (same_name g.0 x) (is_among (names_in gs) x) (ap (λ m. same_name m x) same ∙ same_name_self x)))
    by true false e f rest = refl
    by false t e f rest = rest (second (same_name g.0 x) none) n ∙ ap (λ t. cond t (Some z) (value_at gs n)) f
      where
        second : (a : Bool) → (a || is_among (names_in gs) x) ≡ false → is_among (names_in gs) x ≡ false
        second false h = h
        second true h = absurd (false≢true (sym h))

module _ (readings : Readings) (granted after : Valuation) (x : Name) (z : ℤ) (one_more : (n : Name) → value_at after n ≡ value_at ((x, z) ∷ granted) n) where
  abbrev taken : SensorDeclaration → ℤ
  taken = reading_taken readings granted

  abbrev taken_after : SensorDeclaration → ℤ
  taken_after = reading_taken readings after

  -- the sensor that it is granted to takes it
  takes_it : (s : SensorDeclaration) → takes_granted x s ≡ true → taken_after s ≡ z
  takes_it s e = by s.source e
    where
      by : (from : Source) → (is_grant from && same_name s.name x) ≡ true → unwrap_or (reading_from readings after s from) s.initial ≡ z
      by (from_line k) e = absurd (false≢true e)
      by from_grant e =
          ap (λ o. unwrap_or o s.initial) (one_more s.name) ∙ ap (λ t. unwrap_or (cond t (Some z) (value_at granted s.name)) s.initial) (nat_list_eq_equiv.symm x s.name ∙ e)

  -- and any other sensor takes what it took before
  takes_as_before : (s : SensorDeclaration) → takes_granted x s ≡ false → taken_after s ≡ taken s
  takes_as_before s e = by s.source e
    where
      by : (from : Source) → (is_grant from && same_name s.name x) ≡ false → unwrap_or (reading_from readings after s from) s.initial ≡ unwrap_or (reading_from readings granted s from) s.initial
      by (from_line k) e = refl
      by from_grant e =
          ap (λ o. unwrap_or o s.initial) (one_more s.name) ∙ ap (λ t. unwrap_or (cond t (Some z) (value_at granted s.name)) s.initial) (nat_list_eq_equiv.symm x s.name ∙ e)

  abbrev names_of_sensors : List SensorDeclaration → List Name
  names_of_sensors ss = map (λ (s : SensorDeclaration). s.name) ss

  others : (ss : List SensorDeclaration) → not (is_among (names_of_sensors ss) x) ≡ true → map taken ss ≡ map taken_after ss
  others [] none = refl
  others (s ∷ ss) none =
      let apart = neither (same_name s.name x) (is_among (names_of_sensors ss) x) none in
      let first = takes_as_before s (no_one (is_grant s.source) (same_name s.name x) apart.0) in
      let rest = others ss apart.1 in
      rw (first, rest) refl
    where
      no_one : (a b : Bool) → b ≡ false → (a && b) ≡ false
      no_one true b e = e
      no_one false b e = refl

  all_taken : (m : Valuation) (ss : List SensorDeclaration) → all_different (names_of_sensors ss) ≡ true
      → cond (list_any (takes_granted x) ss) (with_value (with_values m (names_of_sensors ss) (map taken ss)) x z) (with_values m (names_of_sensors ss) (map taken ss))
      ≡ with_values m (names_of_sensors ss) (map taken_after ss)
  all_taken m [] different = refl
  all_taken m (s ∷ ss) different =
      let both = and_parts (not (is_among (names_of_sensors ss) s.name)) (all_different (names_of_sensors ss)) different in
      by (takes_granted x s) refl both.0 (all_taken (with_value m s.name (taken s)) ss both.1)
    where
      ns : List Name
      ns = names_of_sensors ss

      by : (b : Bool) → takes_granted x s ≡ b → not (is_among (names_of_sensors ss) s.name) ≡ true
          → cond (list_any (takes_granted x) ss) (with_value (with_values (with_value m s.name (taken s)) (names_of_sensors ss) (map taken ss)) x z) (with_values (with_value m s.name (taken s)) (names_of_sensors ss) (map taken ss))
          ≡ with_values (with_value m s.name (taken s)) (names_of_sensors ss) (map taken_after ss)
          → cond (b || list_any (takes_granted x) ss) (with_value (with_values (with_value m s.name (taken s)) (names_of_sensors ss) (map taken ss)) x z) (with_values (with_value m s.name (taken s)) (names_of_sensors ss) (map taken ss))
          ≡ with_values (with_value m s.name (taken_after s)) (names_of_sensors ss) (map taken_after ss)
      by true e apart rest =
          let names = names_of_sensors ss in
          let is : s.name ≡ x = same_name_is s.name x (and_parts (is_grant s.source) (same_name s.name x) e).1 in
          let none : not (is_among names x) ≡ true = sym (ap (λ n. not (is_among names n)) is) ∙ apart in
          let there : is_among (names_in (with_value m s.name (taken s))) x ≡ true = ap (is_among (names_in (with_value m s.name (taken s)))) (sym is) ∙ given_there m s.name (taken s) in
          before_others (with_value m s.name (taken s)) names (map taken ss) x z there none
          ∙ ap (λ n. with_values (with_value (with_value m s.name (taken s)) n z) names (map taken ss)) (sym is)
          ∙ ap (λ n. with_values n names (map taken ss)) (twice_given m s.name (taken s) z)
          ∙ ap (λ y. with_values (with_value m s.name y) names (map taken ss)) (sym (takes_it s e))
          ∙ ap (with_values (with_value m s.name (taken_after s)) names) (others ss none)
      by false e apart rest = rest ∙ ap (λ y. with_values (with_value m s.name y) (names_of_sensors ss) (map taken_after ss)) (sym (takes_as_before s e))

-- a program's sensors have different names
sensors_differ : (p : GiottoProgram) → PortNamesDiffer p → all_different (sensor_names p) ≡ true
sensors_differ p different =
    let shared = different_first (driver_ports p) _ (sym (ap all_different (port_names_begin p)) ∙ different) in
    different_first (sensor_names p) (actuator_names p ++ output_names p) shared

pub granted_more : (p : GiottoProgram) (readings : Readings) (granted after ports : Valuation) (x : Name) (z : ℤ) → PortNamesDiffer p → ((n : Name) → value_at after n ≡ value_at ((x, z) ∷ granted) n)
    → with_granted p x z (with_readings p readings granted ports) ≡ with_readings p readings after ports
granted_more p readings granted after ports x z different one_more = all_taken readings granted after x z one_more ports p.sensors (sensors_differ p different)

-- values granted one after the other
pub granted_in_order : (p : GiottoProgram) (readings : Readings) (before granted ports : Valuation) → PortNamesDiffer p → all_different (names_in (before ++ granted)) ≡ true
    → with_each_granted p granted (with_readings p readings before ports) ≡ with_readings p readings (before ++ granted) ports
granted_in_order p readings before [] ports different names = ap (λ gs. with_readings p readings gs ports) (sym (append-nil before))
granted_in_order p readings before (g ∷ gs) ports different names =
    let on : (before ++ g ∷ []) ++ gs ≡ before ++ g ∷ gs = append_assoc before (g ∷ []) gs in
    ap (with_each_granted p gs) (granted_more p readings before (before ++ g ∷ []) ports g.0 g.1 different (found_last before g.0 g.1 (new before names)))
    ∙ granted_in_order p readings (before ++ g ∷ []) gs ports different (ap (λ ws. all_different (names_in ws)) on ∙ names)
    ∙ ap (λ ws. with_readings p readings ws ports) on
  where
    new : (before : Valuation) → all_different (names_in (before ++ g ∷ gs)) ≡ true → is_among (names_in before) g.0 ≡ false
    new [] h = refl
    new (b ∷ bs) h =
        let both = and_parts (not (is_among (names_in (bs ++ g ∷ gs)) b.0)) (all_different (names_in (bs ++ g ∷ gs))) h in
        let rest = new bs both.1 in
        first (same_name b.0 g.0) refl both.0 rest
      where
        there : (ws : Valuation) → is_among (names_in (ws ++ g ∷ gs)) g.0 ≡ true
        there [] = or_left (same_name g.0 g.0) (is_among (names_in gs) g.0) (same_name_self g.0)
        there (w ∷ ws) = or_right (same_name w.0 g.0) (is_among (names_in (ws ++ g ∷ gs)) g.0) (there ws)

        first : (t : Bool) → same_name b.0 g.0 ≡ t → not (is_among (names_in (bs ++ g ∷ gs)) b.0) ≡ true → is_among (names_in bs) g.0 ≡ false → (t || is_among (names_in bs) g.0) ≡ false
        first true e none rest = absurd (false≢true (ap not (sym (ap (is_among (names_in (bs ++ g ∷ gs))) (same_name_is b.0 g.0 e) ∙ there bs)) ∙ none))
        first false e none rest = rest

-- the sensor that takes a value, by its place

first_takes : (test : SensorDeclaration → Bool) (ss : List SensorDeclaration) (i k : ℕ) → position_from test i ss ≡ Some k → list_any test ss ≡ true
first_takes test [] i k e = absurd (cc)
first_takes test (s ∷ ss) i k e = by (test s) e (first_takes test ss (i + 1) k)
  where
    by : (b : Bool) → cond b (Some i) (position_from test (i + 1) ss) ≡ Some k → (position_from test (i + 1) ss ≡ Some k → list_any test ss ≡ true) → (b || list_any test ss) ≡ true
    by true e rest = refl
    by false e rest = rest e

none_takes : (test : SensorDeclaration → Bool) (ss : List SensorDeclaration) (i : ℕ) → position_from test i ss ≡ None → list_any test ss ≡ false
none_takes test [] i e = refl
none_takes test (s ∷ ss) i e = by (test s) e (none_takes test ss (i + 1))
  where
    by : (b : Bool) → cond b (Some i) (position_from test (i + 1) ss) ≡ None → (position_from test (i + 1) ss ≡ None → list_any test ss ≡ false) → (b || list_any test ss) ≡ false
    by true e rest = absurd (cc)
    by false e rest = rest e

module _ (p : GiottoProgram) (x : Name) (different : PortNamesDiffer p) (items : List Sensor) (all : map sensor_of items ≡ p.sensors) where
  pub granted_first : position_from (λ (s : Sensor). takes_granted x (sensor_of s)) 0 items ≡ position_from (takes_granted x) 0 p.sensors
  granted_first = sym (place-map (takes_granted x) sensor_of 0 items) ∙ ap (position_from (takes_granted x) 0) all

  -- a sensor that takes it is the first that does
  pub granted_once : (k : ℕ) (s : Sensor) → slice_get items k ≡ Some s → takes_granted x (sensor_of s) ≡ true → Some k ≡ position_from (takes_granted x) 0 p.sensors
  granted_once k s at takes =
      let there : slice_get p.sensors k ≡ Some (sensor_of s) = ap (λ ss. slice_get ss k) (sym all) ∙ slice_get-map sensor_of items k ∙ ap (option_map sensor_of) at in
      sym (placed_first (λ (d : SensorDeclaration). d.name) (takes_granted x) x (λ d e. same_name_is d.name x (and_parts (is_grant d.source) (same_name d.name x) e).1) p.sensors k (sensor_of s)
      (sensors_differ p different) there takes)

module _ (p : GiottoProgram) (values : List ℤ) (x : Name) (different : PortNamesDiffer p) (long : length values ≡ slots_of p) where
  there : (k : ℕ) → position_from (takes_granted x) 0 p.sensors ≡ Some k → slice_get (port_names p) k ≡ Some x
  there k e =
      let found = passes_there (takes_granted x) 0 p.sensors k e in
      let s = found.1 in
      let same : k ≡ found.0 = omega (arith, found.2) in
      ap (slice_get (port_names p)) same ∙ sensor_there p found.0 s found.3 ∙ ap Some (same_name_is s.name x (and_parts (is_grant s.source) (same_name s.name x) found.4).1)

  pub granted_within : (k : ℕ) → position_from (takes_granted x) 0 p.sensors ≡ Some k → k < length values
  granted_within k e = omega (arith, slice_get_within (port_names p) k x (there k e), length-map (ports_of p) shown_name, long)

  -- the first sensor that takes it is given the value
  pub granted_at : (k : ℕ) (z : ℤ) → position_from (takes_granted x) 0 p.sensors ≡ Some k → valuation_of p (slice_set values k z) ≡ with_granted p x z (valuation_of p values)
  granted_at k z e =
      sym (with_value_at_place (port_names p) values k x z different (there k e) (length-map (ports_of p) shown_name ∙ sym long))
      ∙ sym (ap (λ b. cond b (with_value (valuation_of p values) x z) (valuation_of p values)) (first_takes (takes_granted x) p.sensors 0 k e))

  -- if no sensor takes it, nothing changes
  pub granted_nowhere : (z : ℤ) → position_from (takes_granted x) 0 p.sensors ≡ None → valuation_of p values ≡ with_granted p x z (valuation_of p values)
  granted_nowhere z e =
      sym (ap (λ b. cond b (with_value (valuation_of p values) x z) (valuation_of p values)) (none_takes (takes_granted x) p.sensors 0 e))

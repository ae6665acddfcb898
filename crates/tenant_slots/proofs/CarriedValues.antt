-- Kept values of ports. Written one by one, they give the ports after a replacement.
use Rattle.std.proofs.Common.{◌≡◌, ℕ, ◌+◌, ◌<◌, Bool, true, false, not, cond, ◌&&◌, ◌||◌, ℤ, pos, List, [], ◌∷◌, ◌++◌, length, map, filter, drop, set, get_or, Some, None, unwrap_or, refl, sym, ap, ◌∙◌, arith}
use Rattle.std.specs.List.{list_all}
use Rattle.std.specs.Cmp.Lexicographic.{nat_list_eq_equiv}
use Rattle.std.proofs.lemmas.Bool.{and_parts, false≢true}
use Rattle.std.proofs.lemmas.List.{drop_more, length-map}
use Rattle.std.proofs.lemmas.Option.{slice_get-get_or}
use Rattle.std.proofs.lemmas.Slice.Zip.{firsts-zip}
use Rattle.giotto_tasks.specs.declared.names.Name.{Name}
use Rattle.giotto_tasks.specs.cited.Sources.{names_in}
use Rattle.giotto_tasks.specs.Names.{Valuation, same_name, is_among, value_at, value_or_zero, with_value}
use Rattle.giotto_tasks.specs.Sound.{all_different}
use Rattle.giotto_tasks.proofs.cited.NameLemmas.{same_name_is, among_first, among_second, all_in}
use Rattle.giotto_tasks.proofs.cited.TestLemmas.{either}
use Rattle.giotto_tasks.proofs.cited.ValuationLemmas.{names_in-with_value}
use Rattle.rig_model.specs.text.PortNames.{with_values}
use Rattle.rig_model.specs.text.Program.{GiottoProgram}
use Rattle.rig_model.specs.rules.Declarations.{sensor_names, actuator_names, output_names, driver_ports}
use Rattle.giotto_check.specs.cited.Facts.{ProgramFits}
use Rattle.giotto_check.specs.cited.Slots.{HaveSlots, slots_of, with_slots}
use Rattle.giotto_check.specs.Slots.{port_names, valuation_of}
use Rattle.rig_model.specs.rules.Ports.{ports_of, shown_name, slot_of}
use Rattle.giotto_check.proofs.cited.SlotLemmas.{name_at_slot, port_names_begin}
use Rattle.giotto_check.proofs.cited.Valuations.{value_at_place}
use Rattle.rig_model.specs.Ports.{initial_ports}
use Rattle.rig_model.specs.Replacement.{carried_over, carried_ports, stands_in_both}
use Rattle.tenant_slots.specs.cited.Replacement.{IsCarryTable, is_carried}
use Rattle.tenant_slots.specs.declared.replacement.Carried.{Carried}
use Rattle.tenant_slots.proofs.InitialValues.{names_are}
use Rattle.tenant_slots.proofs.cited.Numbered.{slot_within}
use Rattle.tenant_slots.proofs.TaskValues.{all_written_at}

-- names that are given values stay where they are in the map, and every other name keeps its value
module _ (f : Name → ℤ) where
  abbrev given : List Name → Name × ℤ → Name × ℤ
  given names v = (v.0, cond (is_among names v.0) (f v.0) v.1)

  not_there : (x : Name) (xs : List Name) (vs : Valuation) → is_among (names_in vs) x ≡ false → map (given xs) vs ≡ map (given (x ∷ xs)) vs
  not_there x xs [] none = refl
  not_there x xs (v ∷ vs) none = by (same_name v.0 x) refl none (not_there x xs vs)
    where
      by : (b : Bool) → same_name v.0 x ≡ b → (b || is_among (names_in vs) x) ≡ false → (is_among (names_in vs) x ≡ false → map (given xs) vs ≡ map (given (x ∷ xs)) vs)
          → given xs v ∷ map (given xs) vs ≡ given (x ∷ xs) v ∷ map (given (x ∷ xs)) vs
      by true e none rest = absurd (false≢true (sym none))
      by false e none rest =
          let apart : same_name x v.0 ≡ false = nat_list_eq_equiv.symm x v.0 ∙ e in
          ap (λ b. (v.0, cond (b || is_among xs v.0) (f v.0) v.1) ∷ map (given xs) vs) (sym apart) ∙ ap (λ ws. given (x ∷ xs) v ∷ ws) (rest none)

  one_given : (x : Name) (xs : List Name) (vs : Valuation) → all_different (names_in vs) ≡ true → is_among (names_in vs) x ≡ true → map (given xs) (with_value vs x (f x)) ≡ map (given (x ∷ xs)) vs
  one_given x xs [] once there = absurd (false≢true there)
  one_given x xs (v ∷ vs) once there = by (same_name v.0 x) refl there (and_parts (not (is_among (names_in vs) v.0)) (all_different (names_in vs)) once) (one_given x xs vs)
    where
      own : (b : Bool) (z w : ℤ) → z ≡ w → cond b z w ≡ w
      own true z w e = e
      own false z w e = refl

      by : (b : Bool) → same_name v.0 x ≡ b → (b || is_among (names_in vs) x) ≡ true → (not (is_among (names_in vs) v.0) ≡ true) × (all_different (names_in vs) ≡ true)
          → (all_different (names_in vs) ≡ true → is_among (names_in vs) x ≡ true → map (given xs) (with_value vs x (f x)) ≡ map (given (x ∷ xs)) vs)
          → map (given xs) (cond b ((v.0, f x) ∷ vs) (v ∷ with_value vs x (f x))) ≡ given (x ∷ xs) v ∷ map (given (x ∷ xs)) vs
      by true e there both rest =
          let same = same_name_is v.0 x e in
          let this : same_name x v.0 ≡ true = nat_list_eq_equiv.symm x v.0 ∙ e in
          let none : is_among (names_in vs) x ≡ false = ap (is_among (names_in vs)) (sym same) ∙ was_false (is_among (names_in vs) v.0) both.0 in
          let head : cond (is_among xs v.0) (f v.0) (f x) ≡ cond (same_name x v.0 || is_among xs v.0) (f v.0) v.1 =
          own (is_among xs v.0) (f v.0) (f x) (ap f same) ∙ ap f (sym same) ∙ sym (ap (λ b. cond (b || is_among xs v.0) (f v.0) v.1) this) in
          ap (λ z. (v.0, z) ∷ map (given xs) vs) head ∙ ap (λ ws. given (x ∷ xs) v ∷ ws) (not_there x xs vs none)
        where
          was_false : (b : Bool) → not b ≡ true → b ≡ false
          was_false true h = absurd (false≢true h)
          was_false false h = refl
      by false e there both rest =
          let apart : same_name x v.0 ≡ false = nat_list_eq_equiv.symm x v.0 ∙ e in
          ap (λ b. (v.0, cond (b || is_among xs v.0) (f v.0) v.1) ∷ map (given xs) (with_value vs x (f x))) (sym apart) ∙ ap (λ ws. given (x ∷ xs) v ∷ ws) (rest both.1 there)

  all_given : (names : List Name) (vs : Valuation) → all_different (names_in vs) ≡ true → list_all (is_among (names_in vs)) names ≡ true → with_values vs names (map f names) ≡ map (given names) vs
  all_given [] vs once there = sym (same vs)
    where
      same : (vs : Valuation) → map (given []) vs ≡ vs
      same [] = refl
      same (v ∷ vs) = ap (λ ws. v ∷ ws) (same vs)
  all_given (x ∷ xs) vs once there =
      let both = and_parts (is_among (names_in vs) x) (list_all (is_among (names_in vs)) xs) there in
      let names = names_in-with_value vs x (f x) both.0 in
      all_given xs (with_value vs x (f x)) (ap all_different names ∙ once) (ap (λ ns. list_all (is_among ns) xs) names ∙ both.1) ∙ one_given x xs vs once both.0

-- a name among those that pass a test
pub among_filter : (test : Name → Bool) (ns : List Name) (x : Name) → is_among (filter test ns) x ≡ (test x && is_among ns x)
among_filter test [] x = by (test x)
  where
    by : (b : Bool) → false ≡ (b && false)
    by true = refl
    by false = refl
among_filter test (n ∷ ns) x = by (test n) (same_name n x) refl refl (among_filter test ns x)
  where
    skip : (b c : Bool) → b ≡ false → (b && c) ≡ false
    skip true c e = absurd (false≢true (sym e))
    skip false c e = refl

    by : (t s : Bool) → test n ≡ t → same_name n x ≡ s → is_among (filter test ns) x ≡ (test x && is_among ns x) → is_among (cond t (n ∷ filter test ns) (filter test ns)) x ≡ (test x && (s || is_among ns x))
    by true true e f rest =
        let passes : test x ≡ true = ap test (sym (same_name_is n x f)) ∙ e in
        ap (λ s. s || is_among (filter test ns) x) f ∙ sym (ap (λ t. t && true) passes)
    by true false e f rest = ap (λ s. s || is_among (filter test ns) x) f ∙ rest
    by false true e f rest =
        let fails : test x ≡ false = ap test (sym (same_name_is n x f)) ∙ e in
        rest ∙ skip (test x) (is_among ns x) fails ∙ sym (skip (test x) true fails)
    by false false e f rest = rest

value_there : (vs : Valuation) (x : Name) → is_among (names_in vs) x ≡ true → (z : ℤ) × (value_at vs x ≡ Some z)
value_there [] x there = absurd (false≢true there)
value_there (v ∷ vs) x there = by (same_name v.0 x) there (value_there vs x)
  where
    by : (b : Bool) → (b || is_among (names_in vs) x) ≡ true → (is_among (names_in vs) x ≡ true → (z : ℤ) × (value_at vs x ≡ Some z)) → (z : ℤ) × (cond b (Some v.1) (value_at vs x) ≡ Some z)
    by true there rest = (v.1, refl)
    by false there rest = rest there

module _ (old new : GiottoProgram) where
  -- a port that keeps its value is a port of both programs
  pub in_both : (x : Name) → is_carried old new x ≡ true → (is_among (driver_ports old) x ≡ true) × (is_among (driver_ports new) x ≡ true)
  in_both x e = either (stands_in_both sensor_names old new x) (stands_in_both actuator_names old new x) ((is_among (driver_ports old) x ≡ true) × (is_among (driver_ports new) x ≡ true)) e
      (λ s.
      let both = and_parts (is_among (sensor_names old) x) (is_among (sensor_names new) x) s in
      (among_first (sensor_names old) (actuator_names old ++ output_names old) x both.0, among_first (sensor_names new) (actuator_names new ++ output_names new) x both.1))
      (λ a.
      let both = and_parts (is_among (actuator_names old) x) (is_among (actuator_names new) x) a in (
        among_second (sensor_names old) (actuator_names old ++ output_names old) x (among_first (actuator_names old) (output_names old) x both.0),
        among_second (sensor_names new) (actuator_names new ++ output_names new) x (among_first (actuator_names new) (output_names new) x both.1),
      ))

  abbrev names_carried : List Name
  names_carried = filter (is_carried old new) (driver_ports new)

  -- the names in the table are those that keep their values
  are_carried : (x : Name) → is_among names_carried x ≡ is_carried old new x
  are_carried x = among_filter (is_carried old new) (driver_ports new) x ∙ by (is_carried old new x) refl
    where
      by : (b : Bool) → is_carried old new x ≡ b → (b && is_among (driver_ports new) x) ≡ b
      by true e = (in_both x e).1
      by false e = refl

  -- a driver's port is a port
  port_there : (p : GiottoProgram) (x : Name) → is_among (driver_ports p) x ≡ true → is_among (port_names p) x ≡ true
  port_there p x there = ap (λ ns. is_among ns x) (port_names_begin p) ∙ among_first (driver_ports p) _ x there

  module _ (values : List ℤ) (long : length values ≡ slots_of old) where
    abbrev ports : Valuation
    ports = valuation_of old values

    names_of_ports : names_in ports ≡ port_names old
    names_of_ports = firsts-zip (port_names old) values (long ∙ sym (length-map (ports_of old) shown_name))

    carried_alike : (v : Name × ℤ) → given (value_or_zero ports) names_carried v ≡ (v.0, carried_over ports old new v.0 v.1)
    carried_alike v = ap (λ z. (v.0, z)) (ap (λ b. cond b (value_or_zero ports v.0) v.1) (are_carried v.0) ∙ by (is_carried old new v.0) refl)
      where
        by : (b : Bool) → is_carried old new v.0 ≡ b → cond b (value_or_zero ports v.0) v.1 ≡ cond b (unwrap_or (value_at ports v.0) v.1) v.1
        by true e =
            let found = value_there ports v.0 (ap (λ ns. is_among ns v.0) names_of_ports ∙ port_there old v.0 (in_both v.0 e).0) in
            ap (λ o. unwrap_or o (pos 0)) found.1 ∙ sym (ap (λ o. unwrap_or o v.1) found.1)
        by false e = refl

    all_alike : (vs : Valuation) → map (given (value_or_zero ports) names_carried) vs ≡ map (λ (v : Name × ℤ). (v.0, carried_over ports old new v.0 v.1)) vs
    all_alike [] = refl
    all_alike (v ∷ vs) = let head = carried_alike v in let rest = all_alike vs in ap (λ w. w ∷ map (given (value_or_zero ports) names_carried) vs) head ∙ ap (λ ws. (v.0, carried_over ports old new v.0 v.1) ∷ ws) rest

    -- values given by name are carried over
    pub given_by_name : ProgramFits new → with_values (initial_ports new) names_carried (map (value_or_zero ports) names_carried) ≡ carried_ports ports old new
    given_by_name fits =
        let names = names_are new in
        let there : list_all (is_among (names_in (initial_ports new))) names_carried ≡ true =
        all_in (is_among (names_in (initial_ports new))) names_carried
        (λ x among. ap (λ ns. is_among ns x) (sym names) ∙ port_there new x (in_both x (sym (are_carried x) ∙ among)).1) in
        all_given (value_or_zero ports) names_carried (initial_ports new) (ap all_different (sym names) ∙ fits.ports_once) there ∙ all_alike (initial_ports new)

    -- the values that the table's entries take
    taken : ProgramFits old → (names : List Name) (es : List Carried) → HaveSlots old names (map (λ (c : Carried). c.from) es)
        → map (λ (c : Carried). get_or values c.from (pos 0)) es ≡ map (value_or_zero ports) names
    taken fits [] [] at = refl
    taken fits [] (c ∷ es) at = absurd (cc)
    taken fits (x ∷ xs) [] at = absurd (cc)
    taken fits (x ∷ xs) (c ∷ es) at =
        let first : slot_of old None x ≡ Some c.from = cc in
        let rest : HaveSlots old xs (map (λ (c : Carried). c.from) es) = cc in
        let lt : c.from < length values = omega (arith, long, slot_within old None x c.from first) in
        let value : value_at ports x ≡ Some (get_or values c.from (pos 0)) =
        value_at_place (port_names old) values c.from x fits.ports_once (name_at_slot old None x c.from first) ∙ slice_get-get_or values c.from (pos 0) lt in
        ap (λ o. unwrap_or o (pos 0) ∷ map (λ (c : Carried). get_or values c.from (pos 0)) es) (sym value) ∙ ap (λ zs. value_or_zero ports x ∷ zs) (taken fits xs es rest)

    -- values given by slot are carried over
    pub given_by_slot : (table : List Carried) (initial after : List ℤ) → IsCarryTable old new table → length initial ≡ slots_of new → valuation_of new initial ≡ initial_ports new
        → after ≡ with_slots initial (map (λ (c : Carried). c.to) table) (map (λ (c : Carried). get_or values c.from (pos 0)) table) → valuation_of new after ≡ carried_ports ports old new
    given_by_slot table initial after is same begun e =
        let zs = map (λ (c : Carried). get_or values c.from (pos 0)) table in
        ap (valuation_of new) e ∙ all_written_at new is.new_fits initial same names_carried (map (λ (c : Carried). c.to) table) zs is.entries.to
        ∙ ap (λ vs. with_values vs names_carried zs) begun ∙ ap (with_values (initial_ports new) names_carried) (taken is.old_fits names_carried table is.entries.from) ∙ given_by_name is.new_fits

-- one more entry of a table
pub next_carried : (olds vs whole : List ℤ) (es : List Carried) (i : ℕ) (c : Carried) (z : ℤ) → i < length es → c ≡ get_or es i c → z ≡ get_or olds c.from (pos 0)
    → with_slots vs (map (λ (c : Carried). c.to) (drop i es)) (map (λ (c : Carried). get_or olds c.from (pos 0)) (drop i es)) ≡ whole
    → with_slots (set vs c.to z) (map (λ (c : Carried). c.to) (drop (i + 1) es)) (map (λ (c : Carried). get_or olds c.from (pos 0)) (drop (i + 1) es)) ≡ whole
next_carried olds vs whole es i c z lt is value h =
    let rest = drop (i + 1) es in
    let here : drop i es ≡ c ∷ rest = drop_more es i c lt ∙ ap (λ d. d ∷ rest) (sym is) in
    ap (λ z. with_slots (set vs c.to z) (map (λ (c : Carried). c.to) rest) (map (λ (c : Carried). get_or olds c.from (pos 0)) rest)) value
    ∙ sym (ap (λ ds. with_slots vs (map (λ (c : Carried). c.to) ds) (map (λ (c : Carried). get_or olds c.from (pos 0)) ds)) here) ∙ h

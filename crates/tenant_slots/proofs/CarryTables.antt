-- The table of a replacement: what kind of port has a slot, and how an entry is added.
use Rattle.std.proofs.Common.{◌≡◌, ℕ, zero, suc, ◌+◌, ◌-◌, ◌<◌, ◌≤◌, Bool, true, false, cond, nat_lt, nat_le, List, [], ◌∷◌, ◌++◌, length, map, filter, take, get_or, Some, None, refl, sym, ap, subst, ◌∙◌, append-nil, arith}
use Rattle.std.specs.Prelude.{slice_get}
use Rattle.std.specs.List.{AllByRecursion}
use Rattle.std.specs.Option.{option_map}
use Rattle.std.proofs.lemmas.Bool.{false_from_ne_true}
use Rattle.std.proofs.lemmas.Bool.Decides.{nat_tests}
use Rattle.std.proofs.lemmas.List.{length-map, map-append, take_more}
use Rattle.std.proofs.lemmas.List.Elements.{filter-append}
use Rattle.std.proofs.lemmas.Option.{slice_get-get_or, slice_get-map, slice_get_within}
use Rattle.giotto_tasks.specs.declared.names.Name.{Name}
use Rattle.giotto_tasks.specs.Names.{is_among}
use Rattle.giotto_tasks.proofs.cited.ListLemmas.{all_at}
use Rattle.rig_model.specs.text.Program.{GiottoProgram}
use Rattle.rig_model.specs.rules.Declarations.{sensor_names, actuator_names, output_names, driver_ports}
use Rattle.giotto_check.specs.cited.Facts.{ProgramFits}
use Rattle.giotto_check.specs.cited.Slots.{HaveSlots, slots_of}
use Rattle.rig_model.specs.rules.Ports.{shared_port, slot_of}
use Rattle.giotto_check.proofs.cited.PlaceLemmas.{passes_there}
use Rattle.giotto_check.proofs.cited.SlotLemmas.{no_slot, slot_of_port, slot_shared}
use Rattle.tenant_slots.specs.cited.Replacement.{AreCarried, IsCarryTable, is_carried}
use Rattle.tenant_slots.specs.declared.replacement.Carried.{Carried}
use Rattle.tenant_slots.proofs.ActuatorPlaces.{place_among, place_past, actuator_slot}
use Rattle.tenant_slots.proofs.CarriedValues.{in_both}
use Rattle.tenant_slots.proofs.cited.Numbered.{slot_within}

-- the slots of the sensors come first, and those of the actuators next
module _ (p : GiottoProgram) (x : Name) (k : ℕ) (at : slot_of p None x ≡ Some k) where
  pub sensor_before : is_among (sensor_names p) x ≡ true → k < length p.sensors
  sensor_before there =
      let found = place_among x (sensor_names p) (actuator_names p ++ output_names p) 0 k there (sym (slot_shared p x) ∙ at) in
      omega (arith, found.1, slice_get_within (sensor_names p) found.0 x found.2, length-map p.sensors (λ s. s.name))

  pub others_behind : is_among (sensor_names p) x ≡ false → length p.sensors ≤ k
  others_behind none =
      let past = place_past x (sensor_names p) (actuator_names p ++ output_names p) 0 k none (sym (slot_shared p x) ∙ at) in
      let found = passes_there _ (0 + length (sensor_names p)) (actuator_names p ++ output_names p) k past in
      omega (arith, found.2, length-map p.sensors (λ s. s.name))

  pub outputs_behind : is_among (sensor_names p) x ≡ false → is_among (actuator_names p) x ≡ false → length p.sensors + length p.actuators ≤ k
  outputs_behind none nor =
      let past = place_past x (sensor_names p) (actuator_names p ++ output_names p) 0 k none (sym (slot_shared p x) ∙ at) in
      let further = place_past x (actuator_names p) (output_names p) (0 + length (sensor_names p)) k nor past in
      let found = passes_there _ (0 + length (sensor_names p) + length (actuator_names p)) (output_names p) k further in
      omega (arith, found.2, length-map p.sensors (λ s. s.name), length-map p.actuators (λ a. a.name))

  pub actuator_between : ProgramFits p → is_among (actuator_names p) x ≡ true → (length p.sensors ≤ k) × (k < length p.sensors + length p.actuators)
  actuator_between fits there =
      let found = actuator_slot p fits x k there at in
      (omega (arith, found.1), omega (arith, found.1, slice_get_within (actuator_names p) found.0 x found.2, length-map p.actuators (λ a. a.name)))

  -- so the slot says which kind of port it is
  pub sensor_by_slot : (n : ℕ) → n ≡ length p.sensors → nat_lt k n ≡ is_among (sensor_names p) x
  sensor_by_slot n same = by (is_among (sensor_names p) x) refl
    where
      by : (b : Bool) → is_among (sensor_names p) x ≡ b → nat_lt k n ≡ b
      by true e = let lt : k < n = omega (arith, sensor_before e, same) in grind (arith, nat_tests, lt)
      by false e = let le : n ≤ k = omega (arith, others_behind e, same) in grind (arith, nat_tests, le)

  pub actuator_by_slot : ProgramFits p → (n m : ℕ) → n ≡ length p.sensors → m ≡ length p.actuators → n ≤ k → nat_lt (k - n) m ≡ is_among (actuator_names p) x
  actuator_by_slot fits n m sensors actuators past = by (is_among (actuator_names p) x) refl
    where
      by : (b : Bool) → is_among (actuator_names p) x ≡ b → nat_lt (k - n) m ≡ b
      by true e = let lt : k - n < m = omega (arith, (actuator_between fits e).1, sensors, actuators, past) in grind (arith, nat_tests, lt)
      by false e = let le : m ≤ k - n = omega (arith, outputs_behind no_sensor e, sensors, actuators, past) in grind (arith, nat_tests, le)
        where
          no_sensor : is_among (sensor_names p) x ≡ false
          no_sensor = false_from_ne_true _ (λ there. omega (arith, sensor_before there, sensors, past))

  pub none_before : ProgramFits p → (n : ℕ) → n ≡ length p.sensors → k < n → nat_le n k ≡ is_among (actuator_names p) x
  none_before fits n sensors lt = by (is_among (actuator_names p) x) refl
    where
      by : (b : Bool) → is_among (actuator_names p) x ≡ b → nat_le n k ≡ b
      by true e = absurd (omega (arith, (actuator_between fits e).0, sensors, lt))
      by false e = grind (arith, nat_tests, lt)

-- the port of a driver has the slot of its place
pub slot_of_place : (p : GiottoProgram) → ProgramFits p → (ports : List Name) → ports ≡ driver_ports p → (k : ℕ) (x : Name) → k < length ports → x ≡ get_or ports k x → slot_of p None x ≡ Some k
slot_of_place p fits ports are k x lt is =
    let shared = map shared_port (driver_ports p) in
    let here : slice_get shared k ≡ Some (shared_port x) =
    slice_get-map shared_port (driver_ports p) k
    ∙ ap (option_map shared_port) (sym (ap (λ ns. slice_get ns k) are) ∙ slice_get-get_or ports k x lt ∙ ap Some (sym is)) in
    slot_of_port p k (shared_port x) fits.ports_once (front shared _ k here)
  where
    front : {X : Type 0} (xs ys : List X) (k : ℕ) {x : X} → slice_get xs k ≡ Some x → slice_get (xs ++ ys) k ≡ Some x
    front [] ys k at = absurd (cc)
    front (z ∷ xs) ys zero at = at
    front (z ∷ xs) ys (suc k) at = front xs ys k at

module _ (old new : GiottoProgram) where
  -- one more entry
  pub one_more : (names : List Name) (x : Name) (es : List Carried) (c : Carried) → AreCarried old new names es → slot_of old None x ≡ Some c.from → slot_of new None x ≡ Some c.to → AreCarried old new (names ++ x ∷ []) (es ++ c ∷ [])
  one_more names x es c are from to = record { from = joined old (λ (c : Carried). c.from) are.from from; to = joined new (λ (c : Carried). c.to) are.to to }
    where
      joined : (p : GiottoProgram) (slot : Carried → ℕ) → HaveSlots p names (map slot es) → slot_of p None x ≡ Some (slot c) → HaveSlots p (names ++ x ∷ []) (map slot (es ++ c ∷ []))
      joined p slot all one =
          map-append (slot_of p None) names (x ∷ []) ∙ ap (λ os. os ++ slot_of p None x ∷ []) all ∙ ap (λ o. map Some (map slot es) ++ o ∷ []) one
          ∙ sym (map-append Some (map slot es) (slot c ∷ [])) ∙ ap (map Some) (sym (map-append slot es (c ∷ [])))

  -- the ports so far that keep their values, and the next one
  pub carried_next : (ports : List Name) (i : ℕ) (x : Name) → i < length ports → x ≡ get_or ports i x
      → filter (is_carried old new) (take (i + 1) ports) ≡ filter (is_carried old new) (take i ports) ++ cond (is_carried old new x) (x ∷ []) []
  carried_next ports i x lt is =
      ap (filter (is_carried old new)) (take_more ports i x lt ∙ ap (λ y. take i ports ++ y ∷ []) (sym is)) ∙ filter-append (is_carried old new) (take i ports) (x ∷ [])

  module _ (old_fits : ProgramFits old) (new_fits : ProgramFits new) (ports : List Name) (are : ports ≡ driver_ports new) (i : ℕ) (x : Name) (lt : i < length ports) (is : x ≡ get_or ports i x) (es : List Carried)
      (so_far : AreCarried old new (filter (is_carried old new) (take i ports)) es) where
    -- if the port keeps its value, there is one more entry
    pub entry_made : (from : ℕ) → slot_of old None x ≡ Some from → is_carried old new x ≡ true → AreCarried old new (filter (is_carried old new) (take (i + 1) ports)) (es ++ record { from = from; to = i } ∷ [])
    entry_made from at kept =
        let to : slot_of new None x ≡ Some i = slot_of_place new new_fits ports are i x lt is in
        let next : filter (is_carried old new) (take (i + 1) ports) ≡ filter (is_carried old new) (take i ports) ++ x ∷ [] =
        carried_next ports i x lt is ∙ ap (λ b. filter (is_carried old new) (take i ports) ++ cond b (x ∷ []) []) kept in
        subst (λ ns. AreCarried old new ns (es ++ record { from = from; to = i } ∷ [])) (sym next) (one_more (filter (is_carried old new) (take i ports)) x es (record { from = from; to = i }) so_far at to)

    -- else there is none
    pub entry_left_out : is_carried old new x ≡ false → AreCarried old new (filter (is_carried old new) (take (i + 1) ports)) es
    entry_left_out none =
        let next : filter (is_carried old new) (take (i + 1) ports) ≡ filter (is_carried old new) (take i ports) ++ [] =
        carried_next ports i x lt is ∙ ap (λ b. filter (is_carried old new) (take i ports) ++ cond b (x ∷ []) []) none in
        subst (λ ns. AreCarried old new ns es) (sym (next ∙ append-nil (filter (is_carried old new) (take i ports)))) so_far

  pub no_port : (x : Name) → slot_of old None x ≡ None → is_carried old new x ≡ false
  no_port x none = false_from_ne_true _ (λ e. no_slot old x (in_both old new x e).0 none)

  -- all entries have slots of the two programs
  all_within : (names : List Name) (es : List Carried) → AreCarried old new names es → AllByRecursion (λ (c : Carried). (c.from < slots_of old) × (c.to < slots_of new)) es
  all_within [] [] are = tt
  all_within [] (c ∷ es) are = let e = are.from in absurd (cc)
  all_within (x ∷ xs) [] are = let e = are.from in absurd (cc)
  all_within (x ∷ xs) (c ∷ es) are =
      let f = are.from in
      let t = are.to in
      let from : slot_of old None x ≡ Some c.from = cc in
      let to : slot_of new None x ≡ Some c.to = cc in
      let froms : HaveSlots old xs (map (λ (c : Carried). c.from) es) = cc in
      let tos : HaveSlots new xs (map (λ (c : Carried). c.to) es) = cc in
      ((slot_within old None x c.from from, slot_within new None x c.to to), all_within xs es (record { from = froms; to = tos }))

  pub entry_within : (table : List Carried) (i : ℕ) (c : Carried) → IsCarryTable old new table → i < length table → ((get_or table i c).from < slots_of old) × ((get_or table i c).to < slots_of new)
  entry_within table i c is lt = all_at (λ (c : Carried). (c.from < slots_of old) × (c.to < slots_of new)) table i c lt (all_within (filter (is_carried old new) (driver_ports new)) table is.entries)

-- The actuators' slots: each is that of its place among the actuators, after those of the sensors.
use Rattle.std.proofs.Common.{◌≡◌, ℕ, zero, suc, ◌+◌, ◌<◌, ◌≤◌, Bool, true, false, not, cond, ◌||◌, List, [], ◌∷◌, ◌++◌, length, map, drop, get_or, ⊎_elim, Some, None, refl, sym, ap, subst, ◌∙◌, arith}
use Rattle.std.specs.Prelude.{slice_get}
use Rattle.std.specs.List.{AllByRecursion, position_from}
use Rattle.std.specs.Option.{option_map}
use Rattle.std.proofs.lemmas.Bool.{and_parts, false≢true, false_from_ne_true}
use Rattle.std.proofs.lemmas.List.{length-map}
use Rattle.std.proofs.lemmas.Option.{slice_get-get_or, slice_get-map, slice_get_cases, slice_get_within}
use Rattle.giotto_tasks.specs.declared.names.Name.{Name}
use Rattle.giotto_tasks.specs.Names.{same_name, is_among}
use Rattle.giotto_tasks.specs.Sound.{all_different}
use Rattle.giotto_tasks.proofs.cited.ListLemmas.{some_same}
use Rattle.giotto_tasks.proofs.cited.NameLemmas.{same_name_is, all_different-append, among_first, among_passes, different_first}
use Rattle.rig_model.specs.declared.text.programs.Actuator.{Actuator}
use Rattle.rig_model.specs.text.ProgramTrees.{actuator_of}
use Rattle.rig_model.specs.text.Program.{ActuatorDeclaration, ActuatorUpdate, ModeDeclaration, GiottoProgram}
use Rattle.rig_model.specs.rules.Declarations.{sensor_names, actuator_names, output_names, task_names, mode_names}
use Rattle.rig_model.specs.rules.Ports.{slot_of}
use Rattle.giotto_check.specs.cited.Facts.{ProgramFits, UpdateFits}
use Rattle.giotto_check.specs.cited.Timetables.{AreEach, IsUpdate}
use Rattle.giotto_check.specs.declared.timetables.SlotUpdate.{SlotUpdate}
use Rattle.giotto_check.proofs.cited.PlaceLemmas.{place-map}
use Rattle.giotto_check.proofs.cited.SlotLemmas.{slot_shared}
use Rattle.tenant_slots.proofs.PlacedOnce.{placed_first}
use Rattle.tenant_slots.proofs.cited.Numbered.{mode_fits_at}
use Rattle.tenant_slots.proofs.cited.Updates.{each_item}

module _ (x : Name) where
  abbrev is_it : Name → Bool
  is_it n = same_name n x

  -- if a name is in the first list, its place is there
  pub place_among : (xs ys : List Name) (i k : ℕ) → is_among xs x ≡ true → position_from is_it i (xs ++ ys) ≡ Some k → (j : ℕ) × (k ≡ i + j) × (slice_get xs j ≡ Some x)
  place_among [] ys i k there e = absurd (false≢true there)
  place_among (n ∷ ns) ys i k there e = by (same_name n x) refl there e (place_among ns ys (i + 1) k)
    where
      by : (b : Bool) → same_name n x ≡ b → (b || is_among ns x) ≡ true → cond b (Some i) (position_from is_it (i + 1) (ns ++ ys)) ≡ Some k
          → (is_among ns x ≡ true → position_from is_it (i + 1) (ns ++ ys) ≡ Some k → (j : ℕ) × (k ≡ i + 1 + j) × (slice_get ns j ≡ Some x)) → (j : ℕ) × (k ≡ i + j) × (slice_get (n ∷ ns) j ≡ Some x)
      by true is there e rest = let same : i ≡ k = cc in (0, omega arith, ap Some (same_name_is n x is))
      by false is there e rest = let found = rest there e in (suc found.0, omega (arith, found.1), found.2)

  -- if it isn't, its place is after that list
  pub place_past : (xs ys : List Name) (i k : ℕ) → is_among xs x ≡ false → position_from is_it i (xs ++ ys) ≡ Some k → position_from is_it (i + length xs) ys ≡ Some k
  place_past [] ys i k none e = let same : i + 0 ≡ i = omega arith in ap (λ n. position_from is_it n ys) same ∙ e
  place_past (n ∷ ns) ys i k none e = by (same_name n x) none e (place_past ns ys (i + 1) k)
    where
      by : (b : Bool) → (b || is_among ns x) ≡ false → cond b (Some i) (position_from is_it (i + 1) (ns ++ ys)) ≡ Some k
          → (is_among ns x ≡ false → position_from is_it (i + 1) (ns ++ ys) ≡ Some k → position_from is_it (i + 1 + length ns) ys ≡ Some k) → position_from is_it (i + suc (length ns)) ys ≡ Some k
      by true none e rest = absurd (cc)
      by false none e rest = let same : i + suc (length ns) ≡ i + 1 + length ns = omega arith in ap (λ m. position_from is_it m ys) same ∙ rest none e

-- what holds of all items holds of the first that is left
fits_left : {X : Type 0} (P : X → Type 0) (xs : List X) (k : ℕ) (x : X) (rest : List X) → AllByRecursion P xs → drop k xs ≡ x ∷ rest → P x
fits_left P [] zero x rest all e = absurd (cc)
fits_left P [] (suc k) x rest all e = absurd (cc)
fits_left P (y ∷ ys) zero x rest all e = let same : y ≡ x = cc in subst P same all.0
fits_left P (y ∷ ys) (suc k) x rest all e = fits_left P ys k x rest all.1 e

module _ (p : GiottoProgram) (fits : ProgramFits p) where
  -- no actuator has a sensor's name
  pub not_sensor : (x : Name) → is_among (actuator_names p) x ≡ true → is_among (sensor_names p) x ≡ false
  not_sensor x there = false_from_ne_true _ (λ sensor.
      let others = actuator_names p ++ (output_names p ++ (task_names p ++ mode_names p)) in
      let apart = (and_parts (all_different others) _ (and_parts (all_different (sensor_names p)) _ (sym (all_different-append (sensor_names p) others) ∙ fits.declared_once)).1).1 in
      let none = among_passes (λ y. not (is_among others y)) (sensor_names p) x apart sensor in
      false≢true (ap not (sym (among_first (actuator_names p) (output_names p ++ (task_names p ++ mode_names p)) x there)) ∙ none))

  pub actuator_slot : (x : Name) (k : ℕ) → is_among (actuator_names p) x ≡ true → slot_of p None x ≡ Some k → (j : ℕ) × (k ≡ length p.sensors + j) × (slice_get (actuator_names p) j ≡ Some x)
  actuator_slot x k there at =
      let behind = place_past x (sensor_names p) (actuator_names p ++ output_names p) 0 k (not_sensor x there) (sym (slot_shared p x) ∙ at) in
      let found = place_among x (actuator_names p) (output_names p) (0 + length (sensor_names p)) k there behind in
      (found.0, omega (arith, found.1, length-map p.sensors (λ s. s.name)), found.2)

  -- the slot in an update's entry
  pub entry_slot : (mode : ℕ) (m : ModeDeclaration) (k : ℕ) (u : ActuatorUpdate) (e : SlotUpdate) → slice_get p.modes mode ≡ Some m → drop k m.updates ≡ u ∷ drop (k + 1) m.updates → IsUpdate p m u e
      → (j : ℕ) × (e.actuator ≡ length p.sensors + j) × (slice_get (actuator_names p) j ≡ Some u.actuator)
  entry_slot mode m k u e at left is =
      let one = fits_left (UpdateFits p m) m.updates k u _ (mode_fits_at p fits mode m at).updates left in
      actuator_slot u.actuator e.actuator one.actuator is.actuator

  pub entry_within : (mode : ℕ) (es : List SlotUpdate) (k : ℕ) (e : SlotUpdate) → ((m : ModeDeclaration) → slice_get p.modes mode ≡ Some m → AreEach (IsUpdate p m) m.updates es)
      → (length p.modes ≤ mode → es ≡ []) → k < length es → e ≡ get_or es k e → (length p.sensors ≤ e.actuator) × (e.actuator < length p.sensors + length p.actuators)
  entry_within mode es k e there none lt is = ⊎_elim
      (λ found.
      let item = each_item (IsUpdate p found.0) found.0.updates es k e (there found.0 found.2) lt is in
      let slot = entry_slot mode found.0 k item.0 e found.2 item.1 item.2 in
      (omega (arith, slot.1), omega (arith, slot.1, slice_get_within (actuator_names p) slot.0 item.0.actuator slot.2, length-map p.actuators (λ a. a.name))))
      (λ past. absurd (omega (arith, subst (λ l. k < length l) (none past.0) lt))) (slice_get_cases p.modes mode).1

-- the actuator of the code at a place has the name there
pub name_at : (p : GiottoProgram) (items : List Actuator) (i j : ℕ) (x : Name) (d : Actuator) → map actuator_of items ≡ p.actuators → slice_get (actuator_names p) j ≡ Some x → i ≡ j → (get_or items i d).name ≡ x
name_at p items i j x d all at same =
    let lt : i < length items = omega (arith, slice_get_within (actuator_names p) j x at, length-map p.actuators (λ a. a.name), ap length all, length-map items actuator_of, same) in
    let here : slice_get (actuator_names p) i ≡ Some (get_or items i d).name =
    ap (λ as'. slice_get (map (λ (a : ActuatorDeclaration). a.name) as') i) (sym all) ∙ slice_get-map (λ (a : ActuatorDeclaration). a.name) (map actuator_of items) i
    ∙ ap (option_map (λ (a : ActuatorDeclaration). a.name)) (slice_get-map actuator_of items i ∙ ap (option_map actuator_of) (slice_get-get_or items i d lt)) in
    some_same (get_or items i d).name x (sym here ∙ ap (slice_get (actuator_names p)) same ∙ at)

-- the actuators of the code have the names that the program declares
module _ (p : GiottoProgram) (fits : ProgramFits p) (x : Name) (items : List Actuator) (all : map actuator_of items ≡ p.actuators) where
  abbrev has_name : ActuatorDeclaration → Bool
  has_name d = same_name d.name x

  pub actuator_first : position_from (λ (a : Actuator). same_name a.name x) 0 items ≡ position_from has_name 0 p.actuators
  actuator_first = sym (place-map has_name actuator_of 0 items) ∙ ap (position_from has_name 0) all

  -- an actuator of this name is the first one
  pub actuator_once : (k : ℕ) (a : Actuator) → slice_get items k ≡ Some a → same_name a.name x ≡ true → Some k ≡ position_from has_name 0 p.actuators
  actuator_once k a at named =
      let there : slice_get p.actuators k ≡ Some (actuator_of a) = ap (λ as'. slice_get as' k) (sym all) ∙ slice_get-map actuator_of items k ∙ ap (option_map actuator_of) at in
      let others = output_names p ++ (task_names p ++ mode_names p) in
      let behind = (and_parts (all_different (actuator_names p ++ others)) _ (and_parts (all_different (sensor_names p)) _ (sym (all_different-append (sensor_names p) (actuator_names p ++ others)) ∙ fits.declared_once)).1).0 in
      sym (placed_first (λ (d : ActuatorDeclaration). d.name) has_name x (λ d e. same_name_is d.name x e) p.actuators k (actuator_of a) (different_first (actuator_names p) others behind) there named)

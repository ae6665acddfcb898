-- The actuators' slots are consecutive, and come after those of the sensors.
use Rattle.std.proofs.Common.{◌≡◌, ℕ, ◌+◌, ◌<◌, ℤ, List, [], ◌∷◌, ◌++◌, length, map, drop, set, get_or, Some, refl, sym, ap, ◌∙◌, append_assoc, arith}
use Rattle.std.specs.Prelude.{slice_get}
use Rattle.std.specs.List.{range_with_len, flat_map}
use Rattle.std.proofs.lemmas.List.{drop_more, length-map, length-append}
use Rattle.giotto_tasks.specs.declared.names.Name.{Name}
use Rattle.rig_model.specs.declared.text.programs.Actuator.{Actuator}
use Rattle.rig_model.specs.text.ProgramTrees.{actuator_of}
use Rattle.rig_model.specs.text.Program.{ActuatorDeclaration, GiottoProgram}
use Rattle.rig_model.specs.rules.Declarations.{sensor_names, actuator_names, output_names}
use Rattle.giotto_check.specs.cited.Facts.{ProgramFits}
use Rattle.giotto_check.specs.Slots.{port_names, valuation_of}
use Rattle.rig_model.specs.rules.Ports.{ports_of, ports_of_task, shown_name}
use Rattle.giotto_check.specs.cited.Slots.{slots_of, with_slots}
use Rattle.giotto_check.proofs.cited.SlotLemmas.{port_names_begin}
use Rattle.giotto_check.proofs.cited.Valuations.{with_values_at_places}
use Rattle.rig_model.specs.Ports.{actuators_reset}

pub map_both : (as' : List Actuator) → map (λ (a : Actuator). a.initial) as' ≡ map (λ (a : ActuatorDeclaration). a.initial) (map actuator_of as')
map_both [] = refl
map_both (a ∷ rest) = ap (λ zs. a.initial ∷ zs) (map_both rest)

-- one more of the values that go to consecutive slots
pub next_slot : {X : Type 0} (value : X → ℤ) (xs : List X) (i first : ℕ) (x : X) (z : ℤ) (vs whole : List ℤ) → i < length xs → x ≡ get_or xs i x → z ≡ value x
    → with_slots vs (range_with_len (first + i) (length (drop i xs))) (map value (drop i xs)) ≡ whole
    → with_slots (set vs (first + i) z) (range_with_len (first + (i + 1)) (length (drop (i + 1) xs))) (map value (drop (i + 1) xs)) ≡ whole
next_slot value xs i first x z vs whole lt is same h =
    let here : drop i xs ≡ x ∷ drop (i + 1) xs = drop_more xs i x lt ∙ ap (λ y. y ∷ drop (i + 1) xs) (sym is) in
    let next : first + (i + 1) ≡ first + i + 1 = omega arith in
    let rest = drop (i + 1) xs in
    ap (λ k. with_slots (set vs (first + i) z) (range_with_len k (length rest)) (map value rest)) next
    ∙ ap (λ v. with_slots (set vs (first + i) v) (range_with_len (first + i + 1) (length rest)) (map value rest)) same
    ∙ sym (ap (λ ys. with_slots vs (range_with_len (first + i) (length ys)) (map value ys)) here) ∙ h

at_length : (xs : List Name) (y : Name) (zs : List Name) → slice_get (xs ++ y ∷ zs) (length xs) ≡ Some y
at_length [] y zs = refl
at_length (x ∷ xs) y zs = at_length xs y zs

in_the_middle : (xs ys zs : List Name) → map (slice_get (xs ++ (ys ++ zs))) (range_with_len (length xs) (length ys)) ≡ map Some ys
in_the_middle xs [] zs = refl
in_the_middle xs (y ∷ ys) zs =
    let first = at_length xs y (ys ++ zs) in
    let long : length (xs ++ y ∷ []) ≡ length xs + 1 = length-append xs (y ∷ []) in
    let others : map (slice_get (xs ++ y ∷ (ys ++ zs))) (range_with_len (length xs + 1) (length ys)) ≡ map Some ys =
    ap (λ k. map (slice_get (xs ++ y ∷ (ys ++ zs))) (range_with_len k (length ys))) (sym long)
    ∙ ap (λ ns. map (slice_get ns) (range_with_len (length (xs ++ y ∷ [])) (length ys))) (sym (append_assoc xs (y ∷ []) (ys ++ zs))) ∙ in_the_middle (xs ++ y ∷ []) ys zs in
    rw (first, others) refl

pub reset_by_slots : (p : GiottoProgram) (values after : List ℤ) (first n : ℕ) (zs : List ℤ) → ProgramFits p → length values ≡ slots_of p → first ≡ length p.sensors → n ≡ length p.actuators
    → zs ≡ map (λ (a : ActuatorDeclaration). a.initial) p.actuators → after ≡ with_slots values (range_with_len first n) zs → valuation_of p after ≡ actuators_reset p (valuation_of p values)
reset_by_slots p values after first n zs fits long begin count same e =
    let rest = output_names p ++ map shown_name (flat_map ports_of_task p.tasks) in
    let are : port_names p ≡ sensor_names p ++ (actuator_names p ++ rest) =
    port_names_begin p ∙ append_assoc (sensor_names p) (actuator_names p ++ output_names p) (map shown_name (flat_map ports_of_task p.tasks))
    ∙ ap (λ ns. sensor_names p ++ ns) (append_assoc (actuator_names p) (output_names p) (map shown_name (flat_map ports_of_task p.tasks))) in
    let from : first ≡ length (sensor_names p) = begin ∙ sym (length-map p.sensors _) in
    let many : n ≡ length (actuator_names p) = count ∙ sym (length-map p.actuators _) in
    let at : map (slice_get (port_names p)) (range_with_len first n) ≡ map Some (actuator_names p) = rw (are, from, many) (in_the_middle (sensor_names p) (actuator_names p) rest) in
    ap (valuation_of p) (e ∙ ap (with_slots values (range_with_len first n)) same)
    ∙ sym (with_values_at_places (port_names p) values (actuator_names p) (range_with_len first n) (map (λ (a : ActuatorDeclaration). a.initial) p.actuators) fits.ports_once at
    (length-map (ports_of p) shown_name ∙ sym long))

-- Sensors' readings, written at their slots.
use Rattle.std.proofs.Common.{◌≡◌, ℕ, zero, suc, ◌+◌, ◌<◌, true, ℤ, List, [], ◌∷◌, ◌++◌, length, map, drop, get_or, Some, ap, sym, ◌∙◌}
use Rattle.std.specs.Prelude.{slice_get, slice_set}
use Rattle.std.specs.Option.{option_map}
use Rattle.std.proofs.lemmas.List.{length-map}
use Rattle.std.proofs.lemmas.Option.{slice_get-get_or, slice_get-map}
use Rattle.giotto_tasks.specs.Names.{Valuation, with_value}
use Rattle.giotto_tasks.specs.Sound.{all_different}
use Rattle.rig_model.specs.text.PortNames.{with_values}
use Rattle.rig_model.specs.text.Program.{SensorDeclaration, GiottoProgram}
use Rattle.rig_model.specs.text.ProgramTrees.{sensor_of}
use Rattle.rig_model.specs.declared.text.programs.Sensor.{Sensor}
use Rattle.rig_model.specs.rules.Declarations.{sensor_names, actuator_names, output_names, driver_ports}
use Rattle.giotto_check.specs.Slots.{port_names, valuation_of}
use Rattle.rig_model.specs.rules.Ports.{ports_of, shown_name}
use Rattle.giotto_check.specs.cited.Slots.{slots_of}
use Rattle.giotto_check.proofs.cited.EachLemmas.{left_at}
use Rattle.giotto_check.proofs.cited.SlotLemmas.{port_names_begin}
use Rattle.giotto_check.proofs.cited.Valuations.{with_value_at_place}

front_at : {X : Type 0} (xs ys : List X) (k : ℕ) (x : X) → slice_get xs k ≡ Some x → slice_get (xs ++ ys) k ≡ Some x
front_at [] ys k x at = absurd (cc)
front_at (z ∷ xs) ys zero x at = at
front_at (z ∷ xs) ys (suc k) x at = front_at xs ys k x at

-- a sensor's slot is its place
pub sensor_there : (p : GiottoProgram) (k : ℕ) (s : SensorDeclaration) → slice_get p.sensors k ≡ Some s → slice_get (port_names p) k ≡ Some s.name
sensor_there p k s at =
    let own : slice_get (sensor_names p) k ≡ Some s.name = slice_get-map (λ (s : SensorDeclaration). s.name) p.sensors k ∙ ap (option_map (λ (s : SensorDeclaration). s.name)) at in
    ap (λ ns. slice_get ns k) (port_names_begin p) ∙ front_at (driver_ports p) _ k s.name (front_at (sensor_names p) (actuator_names p ++ output_names p) k s.name own)

-- the readings that are left after one more
pub sensed_next : (p : GiottoProgram) (values : List ℤ) (taken : SensorDeclaration → ℤ) (items : List Sensor) (i : ℕ) (item : Sensor) (z : ℤ) (end : Valuation)
    → all_different (port_names p) ≡ true → length values ≡ slots_of p → map sensor_of items ≡ p.sensors → item ≡ get_or items i item → i < length items → z ≡ taken (sensor_of item)
    → with_values (valuation_of p values) (map (λ (s : SensorDeclaration). s.name) (map sensor_of (drop i items))) (map taken (map sensor_of (drop i items))) ≡ end
    → with_values (valuation_of p (slice_set values i z)) (map (λ (s : SensorDeclaration). s.name) (map sensor_of (drop (i + 1) items))) (map taken (map sensor_of (drop (i + 1) items))) ≡ end
sensed_next p values taken items i item z end different long all is lt same before =
    let left : Valuation → List SensorDeclaration → Valuation = λ ports ss. with_values ports (map (λ (s : SensorDeclaration). s.name) ss) (map taken ss) in
    let rest = map sensor_of (drop (i + 1) items) in
    let s = sensor_of item in
    let at : slice_get p.sensors i ≡ Some s =
    ap (λ ss. slice_get ss i) (sym all) ∙ slice_get-map sensor_of items i ∙ ap (option_map sensor_of) (slice_get-get_or items i item lt ∙ ap Some (sym is)) in
    let one = with_value_at_place (port_names p) values i s.name z different (sensor_there p i s at) (length-map (ports_of p) shown_name ∙ sym long) in
    ap (λ ps. left ps rest) (sym one) ∙ ap (λ z. left (with_value (valuation_of p values) s.name z) rest) same ∙ sym (ap (left (valuation_of p values)) (left_at sensor_of items i item is lt)) ∙ before

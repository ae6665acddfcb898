-- The ports of a program as they are named in replies, with their values.
use Rattle.std.proofs.Common.{◌≡◌, Bool, true, false, not, cond, ◌||◌, ℕ, ◌+◌, ◌<◌, min, ℤ, pos, List, [], ◌∷◌, ◌++◌, length, map, drop, get_or, Some, unwrap_or, refl, sym, ap, ◌∙◌, append_assoc, append-nil, arith}
use Rattle.std.specs.List.{flat_map, zip}
use Rattle.std.proofs.lemmas.Bool.{and_parts, false≢true}
use Rattle.std.proofs.lemmas.List.{drop_more, length-drop, map-append, nil_from_length}
use Rattle.std.proofs.lemmas.Simd.{map-map}
use Rattle.std.proofs.lemmas.Slice.Zip.{firsts-zip, length-zip}
use Rattle.std.specs.Arc.{arc_value}
use Rattle.giotto_tasks.specs.declared.names.Name.{Name}
use Rattle.giotto_tasks.specs.Names.{Valuation, same_name, is_among, value_at}
use Rattle.giotto_tasks.specs.Sound.{all_different}
use Rattle.giotto_tasks.proofs.cited.NameLemmas.{same_name_is, same_name_self}
use Rattle.rig_model.specs.text.Program.{SensorDeclaration, ActuatorDeclaration, OutputDeclaration, GiottoProgram, names_of}
use Rattle.rig_model.specs.text.ProgramTrees.{sensor_of, actuator_of, output_of, task_of}
use Rattle.rig_model.specs.declared.text.programs.Sensor.{Sensor}
use Rattle.rig_model.specs.declared.text.programs.Actuator.{Actuator}
use Rattle.rig_model.specs.declared.text.programs.Output.{Output}
use Rattle.rig_model.specs.declared.text.programs.Task.{Task}
use Rattle.rig_model.specs.rules.Ports.{ProgramPort, task_port, shown_name, ports_of, ports_of_task}
use Rattle.giotto_check.specs.Slots.{port_names, valuation_of}
use Rattle.giotto_check.specs.cited.Slots.{slots_of}
use Rattle.rig_model.specs.declared.lines.ports.PortName.{PortName}
use Rattle.rig_model.specs.declared.lines.ports.PortValue.{PortValue}
use Rattle.rig_model.specs.Commands.{port_with_value}
use Rattle.tenant_programs.specs.inner.ShownPorts.{name_of_port, with_its_value, name_of_own_port, name_of_shared_port}

-- names and values one after the other, from the place i
module _ (names : List PortName) (values : List ℤ) (all : List PortValue) (i : ℕ) where
  pub pairs_more : (n : PortName) (v : ℤ) → i < length names → i < length values → ((d : PortName) → n ≡ get_or names i d) → ((d : ℤ) → v ≡ get_or values i d)
      → (all ++ with_its_value (n, v) ∷ []) ++ map with_its_value (zip (drop (i + 1) names) (drop (i + 1) values)) ≡ all ++ map with_its_value (zip (drop i names) (drop i values))
  pairs_more n v lt lt' name value =
      let ns : drop i names ≡ n ∷ drop (i + 1) names = drop_more names i n lt ∙ ap (λ m. m ∷ drop (i + 1) names) (sym (name n)) in
      let vs : drop i values ≡ v ∷ drop (i + 1) values = drop_more values i v lt' ∙ ap (λ w. w ∷ drop (i + 1) values) (sym (value v)) in
      append_assoc all (with_its_value (n, v) ∷ []) (map with_its_value (zip (drop (i + 1) names) (drop (i + 1) values))) ∙ (λ k. all ++ map with_its_value (zip (sym ns k) (sym vs k)))

  pub pairs_end : i ≡ min (length names) (length values) → all ++ map with_its_value (zip (drop i names) (drop i values)) ≡ all
  pairs_end end =
      let rest = zip (drop i names) (drop i values) in
      let none : length rest ≡ 0 = omega (arith, end, length-zip (drop i names) (drop i values), length-drop i names, length-drop i values) in
      ap (λ vs. all ++ map with_its_value vs) (nil_from_length rest none) ∙ append-nil all

-- the value of another name doesn't matter
other_name : (n : Name) (v : ℤ) (values : Valuation) (x : ProgramPort) → same_name (shown_name x) n ≡ false → port_with_value ((n, v) ∷ values) x ≡ port_with_value values x
other_name n v values x other = by (same_name n (shown_name x)) refl
  where
    by : (b : Bool) → same_name n (shown_name x) ≡ b → port_with_value ((n, v) ∷ values) x ≡ port_with_value values x
    by false e = ap (λ b. with_its_value (name_of_port x, unwrap_or (cond b (Some v) (value_at values (shown_name x))) (pos 0))) e
    by true e = let same : n ≡ shown_name x = same_name_is n (shown_name x) e in absurd (false≢true (sym other ∙ ap (same_name (shown_name x)) same ∙ same_name_self (shown_name x)))

other_names : (n : Name) (v : ℤ) (values : Valuation) (ports : List ProgramPort) → not (is_among (map shown_name ports) n) ≡ true → map (port_with_value ((n, v) ∷ values)) ports ≡ map (port_with_value values) ports
other_names n v values [] none = refl
other_names n v values (x ∷ xs) none =
    let both = neither (same_name (shown_name x) n) (is_among (map shown_name xs) n) none in
    (λ k. other_name n v values x both.0 k ∷ other_names n v values xs both.1 k)
  where
    neither : (a b : Bool) → not (a || b) ≡ true → (a ≡ false) × (not b ≡ true)
    neither false b e = (refl, e)
    neither true b e = absurd (false≢true e)

-- if no two ports are shown alike, each port has the value at its place
values_in_order : (ports : List ProgramPort) (values : List ℤ) → all_different (map shown_name ports) ≡ true → length values ≡ length ports
    → map with_its_value (zip (map name_of_port ports) values) ≡ map (port_with_value (zip (map shown_name ports) values)) ports
values_in_order [] values different long = refl
values_in_order (x ∷ xs) [] different long = absurd (omega (arith, long))
values_in_order (x ∷ xs) (v ∷ vs) different long =
    let both = and_parts (not (is_among (map shown_name xs) (shown_name x))) _ different in
    let rest = zip (map shown_name xs) vs in
    let here : with_its_value (name_of_port x, v) ≡ port_with_value ((shown_name x, v) ∷ rest) x =
    ap (λ b. with_its_value (name_of_port x, unwrap_or (cond b (Some v) (value_at rest (shown_name x))) (pos 0))) (sym (same_name_self (shown_name x))) in
    let further = values_in_order xs vs both.1 (omega (arith, long)) ∙ sym (other_names (shown_name x) v rest xs both.0) in
    (λ k. here k ∷ further k)

pub shown_values : (p : GiottoProgram) (values : List ℤ) → all_different (port_names p) ≡ true → length values ≡ slots_of p
    → map with_its_value (zip (map name_of_port (ports_of p)) values) ≡ map (port_with_value (valuation_of p values)) (ports_of p)
shown_values p values different long = values_in_order (ports_of p) values different long

-- the names of ports, by the code's lists

abbrev pub names_of_task : Task → List PortName
names_of_task t = map name_of_port (ports_of_task (task_of t))

pub own_names : (t : Task) → map (name_of_own_port t.name) (arc_value t.body).inputs ++ map (name_of_own_port t.name) (arc_value t.body).states ≡ names_of_task t
own_names t =
    let b = arc_value t.body in
    sym (map-map name_of_port (task_port t.name) (b.inputs ++ names_of (task_of t).states)
    ∙ map-append (name_of_own_port t.name) b.inputs (names_of (task_of t).states) ∙ ap (λ ns. map (name_of_own_port t.name) b.inputs ++ map (name_of_own_port t.name) ns) (firsts-zip b.states t.states t.each_state))

pub all_names : (p : GiottoProgram) (ss : List Sensor) (us : List Actuator) (os : List Output) (ts : List Task) → map sensor_of ss ≡ p.sensors → map actuator_of us ≡ p.actuators → map output_of os ≡ p.outputs
    → map task_of ts ≡ p.tasks
    → ((map (λ (s : Sensor). name_of_shared_port s.name) ss ++ map (λ (a : Actuator). name_of_shared_port a.name) us) ++ map (λ (o : Output). name_of_shared_port o.name) os) ++ flat_map names_of_task ts ≡ map name_of_port (ports_of p)
all_names p ss us os ts s a o t =
    (λ k. ((sym (map-map of_sensor sensor_of ss) k ++ sym (map-map of_actuator actuator_of us) k) ++ sym (map-map of_output output_of os) k) ++ tasks ts k)
    ∙ (λ k. ((map of_sensor (s k) ++ map of_actuator (a k)) ++ map of_output (o k)) ++ map name_of_port (flat_map ports_of_task (t k)))
    ∙ sym (simp (map-append, map-map, append_assoc))
  where
    of_sensor : SensorDeclaration → PortName
    of_sensor s = name_of_shared_port s.name

    of_actuator : ActuatorDeclaration → PortName
    of_actuator a = name_of_shared_port a.name

    of_output : OutputDeclaration → PortName
    of_output o = name_of_shared_port o.name

    tasks : (ts : List Task) → flat_map names_of_task ts ≡ map name_of_port (flat_map ports_of_task (map task_of ts))
    tasks [] = refl
    tasks (x ∷ xs) = ap (λ zs. names_of_task x ++ zs) (tasks xs) ∙ sym (map-append name_of_port (ports_of_task (task_of x)) (flat_map ports_of_task (map task_of xs)))

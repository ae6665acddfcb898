-- The values that a program's ports begin with, in the order of their slots.
use Rattle.std.proofs.Common.{◌≡◌, ℕ, ◌+◌, ◌<◌, List, [], ◌∷◌, ◌++◌, map, length, take, drop, get_or, ℤ, pos, refl, sym, ap, ◌∙◌, arith, append_assoc, append-nil}
use Rattle.std.specs.List.{flat_map, zip}
use Rattle.std.proofs.lemmas.List.{map-append, length-map, length-append, take_more, drop_more}
use Rattle.std.proofs.lemmas.List.Concat.{flat_map-append}
use Rattle.giotto_tasks.specs.declared.names.Name.{Name}
use Rattle.giotto_tasks.specs.Names.{Valuation}
use Rattle.giotto_tasks.specs.cited.Sources.{names_in}
use Rattle.rig_model.specs.text.PortNames.{own_port, own_ports}
use Rattle.rig_model.specs.text.Program.{SensorDeclaration, ActuatorDeclaration, OutputDeclaration, TaskDeclaration, GiottoProgram, names_of}
use Rattle.rig_model.specs.text.ProgramTrees.{sensor_of, actuator_of, output_of, task_of}
use Rattle.rig_model.specs.declared.text.programs.Sensor.{Sensor}
use Rattle.rig_model.specs.declared.text.programs.Actuator.{Actuator}
use Rattle.rig_model.specs.declared.text.programs.Output.{Output}
use Rattle.rig_model.specs.declared.text.programs.Task.{Task}
use Rattle.rig_model.specs.rules.Ports.{ports_of, shown_name}
use Rattle.giotto_check.specs.Slots.{port_names, valuation_of}
use Rattle.giotto_check.specs.cited.Slots.{slots_of}
use Rattle.giotto_check.proofs.cited.PortsOnce.{all_shown, shown_of_task}
use Rattle.rig_model.specs.Ports.{initial_shared, initial_of_task, initial_own, initial_ports}

-- the values of a map, in its order
abbrev pub values_in : Valuation → List ℤ
values_in vs = map (λ (v : Name × ℤ). v.1) vs

pub paired : (vs : Valuation) → zip (names_in vs) (values_in vs) ≡ vs
paired [] = refl
paired (v ∷ vs) = ap (λ ws. v ∷ ws) (paired vs)

-- a list of things with names and values
module _ {X : Type 0} (name : X → Name) (value : X → ℤ) where
  named : (xs : List X) → names_in (map (λ x. (name x, value x)) xs) ≡ map name xs
  named [] = refl
  named (x ∷ xs) = ap (λ ns. name x ∷ ns) (named xs)

  valued : (xs : List X) → values_in (map (λ x. (name x, value x)) xs) ≡ map value xs
  valued [] = refl
  valued (x ∷ xs) = ap (λ zs. value x ∷ zs) (valued xs)

named-append : (vs ws : Valuation) → names_in (vs ++ ws) ≡ names_in vs ++ names_in ws
named-append vs ws = map-append (λ (v : Name × ℤ). v.0) vs ws

valued-append : (vs ws : Valuation) → values_in (vs ++ ws) ≡ values_in vs ++ values_in ws
valued-append vs ws = map-append (λ (v : Name × ℤ). v.1) vs ws

-- the initial values of a task's own ports: 0 for each input, then the values of its states
pub own_values : (t : TaskDeclaration) → values_in (initial_of_task t) ≡ map (λ (x : Name). pos 0) t.inputs ++ values_in t.states
own_values t =
    valued-append (map (λ x. (own_port t.name x, pos 0)) t.inputs) (map (λ (s : Name × ℤ). (own_port t.name s.0, s.1)) t.states)
    ∙ ap (λ zs. zs ++ values_in (map (λ (s : Name × ℤ). (own_port t.name s.0, s.1)) t.states)) (valued (own_port t.name) (λ x. pos 0) t.inputs)
    ∙ ap (λ zs. map (λ (x : Name). pos 0) t.inputs ++ zs) (valued (λ (s : Name × ℤ). own_port t.name s.0) (λ (s : Name × ℤ). s.1) t.states)

pub zipped_values : (xs : List Name) (zs : List ℤ) → length zs ≡ length xs → values_in (zip xs zs) ≡ zs
zipped_values [] [] e = refl
zipped_values [] (z ∷ zs) e = absurd (omega (arith, e))
zipped_values (x ∷ xs) [] e = absurd (omega (arith, e))
zipped_values (x ∷ xs) (z ∷ zs) e = ap (λ ws. z ∷ ws) (zipped_values xs zs (omega (arith, e)))

abbrev pub values_of_task : Task → List ℤ
values_of_task t = values_in (initial_of_task (task_of t))

-- the initial values of a task of the code, and how many there are
pub task_values : (t : Task) → values_of_task t ≡ map (λ (x : Name). pos 0) (task_of t).inputs ++ t.states
task_values t = own_values (task_of t) ∙ ap (λ zs. map (λ (x : Name). pos 0) (task_of t).inputs ++ zs) (zipped_values _ t.states t.each_state)

pub task_long : (t : Task) → length (initial_of_task (task_of t)) ≡ length (task_of t).inputs + length t.states
task_long t =
    let zeros = map (λ (x : Name). pos 0) (task_of t).inputs in
    let long = length-append zeros t.states in
    omega (arith, length-map (initial_of_task (task_of t)) (λ (v : Name × ℤ). v.1), ap length (task_values t), long, length-map (task_of t).inputs (λ (x : Name). pos 0))

-- the map that the values of all ports represent
pub names_are : (p : GiottoProgram) → port_names p ≡ names_in (initial_ports p)
names_are p =
    let after : Valuation = map (λ (a : ActuatorDeclaration). (a.name, a.initial)) p.actuators ++ map (λ (o : OutputDeclaration). (o.name, o.initial)) p.outputs in
    let s = named (λ (s : SensorDeclaration). s.name) (λ (s : SensorDeclaration). s.initial) p.sensors in
    let a = named (λ (a : ActuatorDeclaration). a.name) (λ (a : ActuatorDeclaration). a.initial) p.actuators in
    let o = named (λ (o : OutputDeclaration). o.name) (λ (o : OutputDeclaration). o.initial) p.outputs in
    let rest = named-append (map (λ (a : ActuatorDeclaration). (a.name, a.initial)) p.actuators) (map (λ (o : OutputDeclaration). (o.name, o.initial)) p.outputs) in
    let shared = named-append (map (λ (s : SensorDeclaration). (s.name, s.initial)) p.sensors) after in
    let all = named-append (initial_shared p) (initial_own p) in
    let own = tasks p.tasks in
    let shown = all_shown p in
    cc
  where
    of_task : (t : TaskDeclaration) → names_in (initial_of_task t) ≡ shown_of_task t
    of_task t =
        named-append (map (λ x. (own_port t.name x, pos 0)) t.inputs) (map (λ (s : Name × ℤ). (own_port t.name s.0, s.1)) t.states)
        ∙ ap (λ ns. ns ++ names_in (map (λ (s : Name × ℤ). (own_port t.name s.0, s.1)) t.states)) (named (own_port t.name) (λ x. pos 0) t.inputs)
        ∙ ap (λ ns. own_ports t.name t.inputs ++ ns) (states t.states)
        ∙ sym (map-append (own_port t.name) t.inputs (names_of t.states))
      where
        states : (vs : Valuation) → names_in (map (λ (s : Name × ℤ). (own_port t.name s.0, s.1)) vs) ≡ own_ports t.name (names_of vs)
        states [] = refl
        states (v ∷ vs) = ap (λ ns. own_port t.name v.0 ∷ ns) (states vs)

    tasks : (ts : List TaskDeclaration) → names_in (flat_map initial_of_task ts) ≡ flat_map shown_of_task ts
    tasks [] = refl
    tasks (t ∷ ts) = named-append (initial_of_task t) (flat_map initial_of_task ts) ∙ ap (λ ns. ns ++ names_in (flat_map initial_of_task ts)) (of_task t) ∙ ap (λ ns. shown_of_task t ++ ns) (tasks ts)

pub ports_are : (p : GiottoProgram) (values : List ℤ) → values ≡ values_in (initial_ports p) → valuation_of p values ≡ initial_ports p
ports_are p values e = ap (λ ns. zip ns values) (names_are p) ∙ ap (zip (names_in (initial_ports p))) e ∙ paired (initial_ports p)

pub values_long : (p : GiottoProgram) (values : List ℤ) → values ≡ values_in (initial_ports p) → length values ≡ slots_of p
values_long p values e =
    let names = ap length (names_are p) in
    omega (arith, ap length e, length-map (initial_ports p) (λ (v : Name × ℤ). v.1), names, length-map (initial_ports p) (λ (v : Name × ℤ). v.0), length-map (ports_of p) shown_name)

-- the values of all ports, from the lists that the code has
pub all_values : (p : GiottoProgram) (ss : List Sensor) (us : List Actuator) (os : List Output) (ts : List Task) → map sensor_of ss ≡ p.sensors → map actuator_of us ≡ p.actuators → map output_of os ≡ p.outputs
    → map task_of ts ≡ p.tasks
    → ((map (λ (s : Sensor). s.initial) ss ++ map (λ (a : Actuator). a.initial) us) ++ map (λ (o : Output). o.initial) os) ++ flat_map values_of_task ts ≡ values_in (initial_ports p)
all_values p ss us os ts s a o t =
    (λ k. ((sensors ss k ++ actuators us k) ++ outputs os k) ++ tasks ts k)
    ∙ (λ k. ((map (λ (s : SensorDeclaration). s.initial) (s k) ++ map (λ (a : ActuatorDeclaration). a.initial) (a k)) ++ map (λ (o : OutputDeclaration). o.initial) (o k)) ++ values_in (flat_map initial_of_task (t k)))
    ∙ ap (λ zs. zs ++ values_in (initial_own p)) (append_assoc (map (λ (s : SensorDeclaration). s.initial) p.sensors) (map (λ (a : ActuatorDeclaration). a.initial) p.actuators) (map (λ (o : OutputDeclaration). o.initial) p.outputs))
    ∙ sym (valued-append (initial_shared p) (initial_own p) ∙ ap (λ zs. zs ++ values_in (initial_own p)) shared)
  where
    sensors : (ss : List Sensor) → map (λ (s : Sensor). s.initial) ss ≡ map (λ (s : SensorDeclaration). s.initial) (map sensor_of ss)
    sensors [] = refl
    sensors (x ∷ xs) = ap (λ zs. x.initial ∷ zs) (sensors xs)

    actuators : (ss : List Actuator) → map (λ (s : Actuator). s.initial) ss ≡ map (λ (s : ActuatorDeclaration). s.initial) (map actuator_of ss)
    actuators [] = refl
    actuators (x ∷ xs) = ap (λ zs. x.initial ∷ zs) (actuators xs)

    outputs : (ss : List Output) → map (λ (s : Output). s.initial) ss ≡ map (λ (s : OutputDeclaration). s.initial) (map output_of ss)
    outputs [] = refl
    outputs (x ∷ xs) = ap (λ zs. x.initial ∷ zs) (outputs xs)

    tasks : (ts : List Task) → flat_map values_of_task ts ≡ values_in (flat_map initial_of_task (map task_of ts))
    tasks [] = refl
    tasks (x ∷ xs) = ap (λ zs. values_of_task x ++ zs) (tasks xs) ∙ sym (valued-append (initial_of_task (task_of x)) (flat_map initial_of_task (map task_of xs)))

    shared : values_in (initial_shared p)
        ≡ map (λ (s : SensorDeclaration). s.initial) p.sensors ++ (map (λ (a : ActuatorDeclaration). a.initial) p.actuators ++ map (λ (o : OutputDeclaration). o.initial) p.outputs)
    shared =
        valued-append (map (λ (s : SensorDeclaration). (s.name, s.initial)) p.sensors) (map (λ (a : ActuatorDeclaration). (a.name, a.initial)) p.actuators ++ map (λ (o : OutputDeclaration). (o.name, o.initial)) p.outputs)
        ∙ (λ k. valued (λ (s : SensorDeclaration). s.name) (λ (s : SensorDeclaration). s.initial) p.sensors k
        ++ (valued-append (map (λ (a : ActuatorDeclaration). (a.name, a.initial)) p.actuators) (map (λ (o : OutputDeclaration). (o.name, o.initial)) p.outputs)
        ∙ (λ j. valued (λ (a : ActuatorDeclaration). a.name) (λ (a : ActuatorDeclaration). a.initial) p.actuators j ++ valued (λ (o : OutputDeclaration). o.name) (λ (o : OutputDeclaration). o.initial) p.outputs j)) k)

-- and how many there are
pub all_counted : (p : GiottoProgram) (ss : List Sensor) (us : List Actuator) (os : List Output) (ts : List Task) → map sensor_of ss ≡ p.sensors → map actuator_of us ≡ p.actuators → map output_of os ≡ p.outputs
    → map task_of ts ≡ p.tasks → length ss + length us + length os + length (flat_map values_of_task ts) ≡ slots_of p
all_counted p ss us os ts s a o t =
    let sensors = map (λ (s : Sensor). s.initial) ss in
    let actuators = map (λ (a : Actuator). a.initial) us in
    let outputs = map (λ (o : Output). o.initial) os in
    let all = values_long p _ (all_values p ss us os ts s a o t) in
    let first = length-append sensors actuators in
    let second = length-append (sensors ++ actuators) outputs in
    let third = length-append ((sensors ++ actuators) ++ outputs) (flat_map values_of_task ts) in
    omega (arith, all, first, second, third, length-map ss (λ (s : Sensor). s.initial), length-map us (λ (a : Actuator). a.initial), length-map os (λ (o : Output). o.initial))

-- the next task's values come after those of the tasks before it, and before those of the tasks after it
pub next_task : (ts : List Task) (i : ℕ) (t : Task) → i < length ts → t ≡ get_or ts i t
    → (flat_map values_of_task (take (i + 1) ts) ≡ flat_map values_of_task (take i ts) ++ values_of_task t)
    × (flat_map values_of_task (drop i ts) ≡ values_of_task t ++ flat_map values_of_task (drop (i + 1) ts))
next_task ts i t lt is = (
  ap (flat_map values_of_task) (take_more ts i t lt ∙ ap (λ u. take i ts ++ u ∷ []) (sym is)) ∙ flat_map-append values_of_task (take i ts) (t ∷ [])
      ∙ ap (λ zs. flat_map values_of_task (take i ts) ++ zs) (append-nil (values_of_task t)),
  ap (flat_map values_of_task) (drop_more ts i t lt ∙ ap (λ u. u ∷ drop (i + 1) ts) (sym is)),
)

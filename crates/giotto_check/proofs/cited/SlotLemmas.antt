-- The slots of ports.
use Rattle.std.proofs.Common.{◌≡◌, ℕ, suc, ◌+◌, Bool, true, false, not, cond, ◌&&◌, ◌||◌, List, [], ◌∷◌, ◌++◌, length, map, take, drop, get_or, nat_le, ◌<◌, ◌≤◌, Option, Some, None, refl, sym, ap, subst, ◌∙◌, append_assoc, arith}
use Rattle.std.specs.List.{flat_map, position_from, range_with_len}
use Rattle.std.specs.Option.{option_map, option_or}
use Rattle.std.specs.Prelude.{slice_get}
use Rattle.std.proofs.lemmas.Bool.{and_parts, or_left, or_right, false≢true}
use Rattle.std.proofs.lemmas.Grind.{flat_map-append}
use Rattle.std.proofs.lemmas.Bool.Decides.{nat_tests}
use Rattle.std.proofs.lemmas.List.{map-append, length-append, length-map, length-take-le, take-append-drop, take_more, drop_more}
use Rattle.std.proofs.lemmas.Option.{get_or_from_slice_get, slice_get-map, slice_get_within}
use Rattle.giotto_tasks.specs.declared.names.Name.{Name}
use Rattle.giotto_tasks.specs.Names.{same_name, is_among}
use Rattle.giotto_tasks.specs.Sound.{all_different, is_small, IsSound}
use Rattle.giotto_tasks.proofs.cited.NameLemmas.{same_name_self, same_name_is}
use Rattle.giotto_rules.specs.text.Program.{TaskDeclaration, GiottoProgram, body_of, names_of}
use Rattle.giotto_rules.specs.text.ProgramTrees as trees
use Rattle.giotto_rules.specs.declared.text.programs.Task.{Task}
use Rattle.giotto_rules.specs.text.PortNames.{own_port}
use Rattle.giotto_rules.specs.Declarations.{driver_ports}
use Rattle.giotto_rules.specs.Ports.{ProgramPort, shared_port, task_port, shown_name, same_task, is_port, ports_of, ports_of_task, slot_of}
use Rattle.giotto_check.specs.Slots.{port_names}
use Rattle.giotto_check.specs.cited.Timetables.{HaveSlotsFrom}
use Rattle.giotto_check.proofs.cited.PlaceLemmas.{passes_there, place-append, place-map, place_first, place_from, place_none, place_same, place_second}

-- a task's port isn't a port without a task
pub no_shared : (x : Name) (i : ℕ) (ts : List TaskDeclaration) → position_from (is_port None x) i (flat_map ports_of_task ts) ≡ None
no_shared x i [] = refl
no_shared x i (t ∷ ts) =
    let own : position_from (is_port None x) i (ports_of_task t) ≡ None =
    place-map (is_port None x) (task_port t.name) i (t.inputs ++ names_of t.states) ∙ place_none (λ y. is_port None x (task_port t.name y)) (λ y. refl) i (t.inputs ++ names_of t.states) in
    place-append (is_port None x) i (ports_of_task t) (flat_map ports_of_task ts) ∙ rw own (no_shared x (i + length (ports_of_task t)) ts)

-- ports without a task are found among their names
pub shared_place : (x : Name) (i : ℕ) (names : List Name) (ts : List TaskDeclaration)
    → position_from (is_port None x) i (map shared_port names ++ flat_map ports_of_task ts) ≡ position_from (λ n. same_name n x) i names
shared_place x i names ts =
    place-append (is_port None x) i (map shared_port names) (flat_map ports_of_task ts)
    ∙ ap (λ o. option_or o (position_from (is_port None x) (i + length (map shared_port names)) (flat_map ports_of_task ts))) (place-map (is_port None x) shared_port i names)
    ∙ ap (option_or (position_from (λ n. same_name n x) i names)) (no_shared x (i + length (map shared_port names)) ts) ∙ or_none (position_from (λ n. same_name n x) i names)
  where
    or_none : (o : Option ℕ) → option_or o None ≡ o
    or_none None = refl
    or_none (Some k) = refl

pub slot_shared : (p : GiottoProgram) (x : Name) → slot_of p None x ≡ position_from (λ n. same_name n x) 0 (driver_ports p)
slot_shared p x = shared_place x 0 (driver_ports p) p.tasks

-- ports without a task aren't ports of a task
no_own : (t x : Name) (i : ℕ) (names : List Name) → position_from (is_port (Some t) x) i (map shared_port names) ≡ None
no_own t x i names = place-map (is_port (Some t) x) shared_port i names ∙ place_none (λ y. is_port (Some t) x (shared_port y)) (λ y. refl) i names

pub slot_own : (p : GiottoProgram) (t x : Name) → slot_of p (Some t) x ≡ position_from (is_port (Some t) x) (length (driver_ports p)) (flat_map ports_of_task p.tasks)
slot_own p t x =
    let shared = map shared_port (driver_ports p) in
    let none = no_own t x 0 (driver_ports p) in
    let long : 0 + length shared ≡ length (driver_ports p) = omega (arith, length-map (driver_ports p) shared_port) in
    place-append (is_port (Some t) x) 0 shared (flat_map ports_of_task p.tasks) ∙ rw none (ap (λ k. position_from (is_port (Some t) x) k (flat_map ports_of_task p.tasks)) long)

-- the ports of a task with another name aren't ports of this task
pub other_task : (t x : Name) (i : ℕ) (d : TaskDeclaration) → same_name d.name t ≡ false → position_from (is_port (Some t) x) i (ports_of_task d) ≡ None
other_task t x i d other =
    place-map (is_port (Some t) x) (task_port d.name) i (d.inputs ++ names_of d.states)
    ∙ place_none (λ y. is_port (Some t) x (task_port d.name y)) (λ y. ap (λ b. b && same_name y x) other) i (d.inputs ++ names_of d.states)

-- the ports of a task with this name are its inputs, then its states
pub this_task : (t x : Name) (i : ℕ) (d : TaskDeclaration) → same_name d.name t ≡ true
    → position_from (is_port (Some t) x) i (ports_of_task d) ≡ position_from (λ n. same_name n x) i (d.inputs ++ names_of d.states)
this_task t x i d this =
    let names = d.inputs ++ names_of d.states in
    place-map (is_port (Some t) x) (task_port d.name) i names
    ∙ place_same (λ y. is_port (Some t) x (task_port d.name y)) (λ n. same_name n x) (λ y. ap (λ b. b && same_name y x) this) i names

pub own_inputs : (t x : Name) (d : TaskDeclaration) (k : ℕ) → same_name d.name t ≡ true → position_from (λ n. same_name n x) 0 d.inputs ≡ Some k
    → position_from (is_port (Some t) x) 0 (ports_of_task d) ≡ Some k
own_inputs t x d k this e =
    let none : 0 + k ≡ k = omega arith in
    this_task t x 0 d this ∙ place_first (λ n. same_name n x) 0 k d.inputs (names_of d.states) e ∙ ap Some none

pub own_states : (t x : Name) (d : TaskDeclaration) (o : Option ℕ) → same_name d.name t ≡ true → position_from (λ n. same_name n x) 0 d.inputs ≡ None
    → position_from (λ n. same_name n x) 0 (names_of d.states) ≡ o → position_from (is_port (Some t) x) 0 (ports_of_task d) ≡ option_map (λ k. length d.inputs + k) o
own_states t x d o this none e =
    let test = λ (n : Name). same_name n x in
    let zero : 0 + length d.inputs ≡ length d.inputs = omega arith in
    this_task t x 0 d this ∙ place_second test 0 d.inputs (names_of d.states) none ∙ ap (λ k. position_from test k (names_of d.states)) zero
    ∙ place_from test (length d.inputs) (names_of d.states) ∙ ap (option_map (λ k. length d.inputs + k)) e

-- the number of a task's ports
pub ports_long : (d : TaskDeclaration) → length (ports_of_task d) ≡ length d.inputs + length (names_of d.states)
ports_long d = length-map (d.inputs ++ names_of d.states) (task_port d.name) ∙ length-append d.inputs (names_of d.states)

-- if a driver may read the name, it has a slot
pub no_slot : (p : GiottoProgram) (x : Name) → is_among (driver_ports p) x ≡ true → slot_of p None x ≡ None → ⊥
no_slot p x there none = lost 0 (driver_ports p) there (sym (slot_shared p x) ∙ none)
  where
    lost : (i : ℕ) (ns : List Name) → is_among ns x ≡ true → position_from (λ n. same_name n x) i ns ≡ None → ⊥
    lost i [] there none = false≢true there
    lost i (n ∷ ns) there none = by (same_name n x) there none (lost (i + 1) ns)
      where
        by : (b : Bool) → (b || is_among ns x) ≡ true → cond b (Some i) (position_from (λ n. same_name n x) (i + 1) ns) ≡ None → (is_among ns x ≡ true → position_from (λ n. same_name n x) (i + 1) ns ≡ None → ⊥) → ⊥
        by true there none further = absurd (cc)
        by false there none further = further there none

-- the port that a test looks for

abbrev is_this : ProgramPort → ProgramPort → Bool
is_this port = is_port port.task port.name

is_this_self : (port : ProgramPort) → is_this port port ≡ true
is_this_self port = by port.task
  where
    by : (task : Option Name) → (same_task task task && same_name port.name port.name) ≡ true
    by None = same_name_self port.name
    by (Some t) = ap (λ b. b && same_name port.name port.name) (same_name_self t) ∙ same_name_self port.name

is_this_shown : (port other : ProgramPort) → is_this port other ≡ true → shown_name other ≡ shown_name port
is_this_shown port other e = by port.task other.task (and_parts _ _ e).0 (same_name_is other.name port.name (and_parts _ _ e).1)
  where
    by : (s t : Option Name) → same_task t s ≡ true → other.name ≡ port.name → shown_name (record { task = t; name = other.name }) ≡ shown_name (record { task = s; name = port.name })
    by None None same names = names
    by None (Some t) same names = absurd (false≢true same)
    by (Some s) None same names = absurd (false≢true same)
    by (Some s) (Some t) same names = let tasks : t ≡ s = same_name_is t s same in cc

-- if no two ports have the same displayed name, a port is the first one that passes its test
pub place_of_port : (i : ℕ) (before : List ProgramPort) (port : ProgramPort) (after : List ProgramPort) → all_different (map shown_name (before ++ port ∷ after)) ≡ true
    → position_from (is_port port.task port.name) i (before ++ port ∷ after) ≡ Some (i + length before)
place_of_port i [] port after different =
    let none : i + 0 ≡ i = omega arith in
    ap (λ b. cond b (Some i) (position_from (is_this port) (i + 1) after)) (is_this_self port) ∙ ap Some (sym none)
place_of_port i (b ∷ bs) port after different =
    let both = and_parts (not (is_among (map shown_name (bs ++ port ∷ after)) (shown_name b))) _ different in
    by (is_this port b) refl both.0 (place_of_port (i + 1) bs port after both.1)
  where
    there : (bs : List ProgramPort) → is_among (map shown_name (bs ++ port ∷ after)) (shown_name port) ≡ true
    there [] = or_left (same_name (shown_name port) (shown_name port)) (is_among (map shown_name after) (shown_name port)) (same_name_self (shown_name port))
    there (c ∷ cs) = or_right (same_name (shown_name c) (shown_name port)) (is_among (map shown_name (cs ++ port ∷ after)) (shown_name port)) (there cs)

    by : (a : Bool) → is_this port b ≡ a → not (is_among (map shown_name (bs ++ port ∷ after)) (shown_name b)) ≡ true → position_from (is_this port) (i + 1) (bs ++ port ∷ after) ≡ Some (i + 1 + length bs)
        → cond a (Some i) (position_from (is_this port) (i + 1) (bs ++ port ∷ after)) ≡ Some (i + suc (length bs))
    by true e none rest =
        let shown : shown_name b ≡ shown_name port = is_this_shown port b e in
        absurd (false≢true (ap not (sym (ap (is_among (map shown_name (bs ++ port ∷ after))) shown ∙ there bs)) ∙ none))
    by false e none rest = let on : i + 1 + length bs ≡ i + suc (length bs) = omega arith in rest ∙ ap Some on

-- consecutive ports of a task have consecutive slots
pub slots_in_a_row : (p : GiottoProgram) (t : Name) (before : List ProgramPort) (names : List Name) (after : List ProgramPort) → all_different (port_names p) ≡ true
    → ports_of p ≡ before ++ (map (task_port t) names ++ after) → HaveSlotsFrom p t names (length before)
slots_in_a_row p t before [] after different is = refl
slots_in_a_row p t before (x ∷ xs) after different is =
    let port = task_port t x in
    let rest = map (task_port t) xs ++ after in
    let names = subst (λ ps. all_different (map shown_name ps) ≡ true) is different in
    let none : 0 + length before ≡ length before = omega arith in
    let first : slot_of p (Some t) x ≡ Some (length before) = ap (position_from (is_port (Some t) x) 0) is ∙ place_of_port 0 before port rest names ∙ ap Some none in
    let on : ports_of p ≡ (before ++ port ∷ []) ++ rest = is ∙ sym (append_assoc before (port ∷ []) rest) in
    let further = slots_in_a_row p t (before ++ port ∷ []) xs after different on in
    let long : length (before ++ port ∷ []) ≡ length before + 1 = length-append before (port ∷ []) in
    let others : map (slot_of p (Some t)) xs ≡ map Some (range_with_len (length before + 1) (length xs)) = further ∙ ap (λ k. map Some (range_with_len k (length xs))) long in
    cc

-- the names of ports begin with those that drivers may read
pub port_names_begin : (p : GiottoProgram) → port_names p ≡ driver_ports p ++ map shown_name (flat_map ports_of_task p.tasks)
port_names_begin p =
    map-append shown_name (map shared_port (driver_ports p)) (flat_map ports_of_task p.tasks) ∙ ap (λ ns. ns ++ map shown_name (flat_map ports_of_task p.tasks)) (same (driver_ports p))
  where
    same : (ns : List Name) → map shown_name (map shared_port ns) ≡ ns
    same [] = refl
    same (n ∷ ns) = ap (λ ms. n ∷ ms) (same ns)

-- the slots of a task's ports; `first` is the number of ports before the task
pub own_slots : (p : GiottoProgram) (before after : List TaskDeclaration) (d : TaskDeclaration) (first : ℕ) → all_different (port_names p) ≡ true → p.tasks ≡ before ++ d ∷ after
    → first ≡ length (map shared_port (driver_ports p) ++ flat_map ports_of_task before) → HaveSlotsFrom p d.name d.inputs first × HaveSlotsFrom p d.name (names_of d.states) (first + length d.inputs)
own_slots p before after d first different is count =
    let shared = map shared_port (driver_ports p) in
    let front = shared ++ flat_map ports_of_task before in
    let inputs = map (task_port d.name) d.inputs in
    let states = map (task_port d.name) (names_of d.states) in
    let rest = flat_map ports_of_task after in
    let cut : ports_of_task d ≡ inputs ++ states = map-append (task_port d.name) d.inputs (names_of d.states) in
    let tasks : flat_map ports_of_task p.tasks ≡ flat_map ports_of_task before ++ ((inputs ++ states) ++ rest) =
    ap (flat_map ports_of_task) is ∙ flat_map-append ports_of_task before (d ∷ after) ∙ ap (λ ps. flat_map ports_of_task before ++ (ps ++ rest)) cut in
    let all : ports_of p ≡ front ++ ((inputs ++ states) ++ rest) = ap (λ ps. shared ++ ps) tasks ∙ sym (append_assoc shared (flat_map ports_of_task before) ((inputs ++ states) ++ rest)) in
    let one : ports_of p ≡ front ++ (inputs ++ (states ++ rest)) = all ∙ ap (λ ps. front ++ ps) (append_assoc inputs states rest) in
    let other : ports_of p ≡ (front ++ inputs) ++ (states ++ rest) = one ∙ sym (append_assoc front inputs (states ++ rest)) in
    let next : length (front ++ inputs) ≡ first + length d.inputs = omega (arith, length-append front inputs, length-map d.inputs (task_port d.name), count) in (
      subst (HaveSlotsFrom p d.name d.inputs) (sym count) (slots_in_a_row p d.name front d.inputs (states ++ rest) different one),
      subst (HaveSlotsFrom p d.name (names_of d.states)) next (slots_in_a_row p d.name (front ++ inputs) (names_of d.states) rest different other),
    )

-- the number of ports before the next task
pub before_more : (p : GiottoProgram) (items : List Task) (i : ℕ) (t : Task) → t ≡ get_or items i t → i < length items
    → length (map shared_port (driver_ports p) ++ flat_map ports_of_task (map trees.task_of (take (i + 1) items)))
    ≡ length (map shared_port (driver_ports p) ++ flat_map ports_of_task (map trees.task_of (take i items))) + (length (trees.task_of t).inputs + length (names_of (trees.task_of t).states))
before_more p items i t is lt =
    let shared = map shared_port (driver_ports p) in
    let d = trees.task_of t in
    let front = map trees.task_of (take i items) in
    let next : map trees.task_of (take (i + 1) items) ≡ front ++ d ∷ [] =
    ap (map trees.task_of) (take_more items i t lt ∙ ap (λ u. take i items ++ u ∷ []) (sym is)) ∙ map-append trees.task_of (take i items) (t ∷ []) in
    let more : flat_map ports_of_task (map trees.task_of (take (i + 1) items)) ≡ flat_map ports_of_task front ++ (ports_of_task d ++ []) = ap (flat_map ports_of_task) next ∙ flat_map-append ports_of_task front (d ∷ []) in
    omega (
      arith,
      ap length more,
      length-append shared (flat_map ports_of_task (map trees.task_of (take (i + 1) items))),
      length-append shared (flat_map ports_of_task front),
      length-append (flat_map ports_of_task front) (ports_of_task d ++ []),
      length-append (ports_of_task d) [],
      ports_long d,
    )

-- a task that can be evaluated has at most 16 inputs and 16 states
pub small_task : (d : TaskDeclaration) → IsSound (body_of d) → (length d.inputs ≤ 16) × (length (names_of d.states) ≤ 16)
small_task d sound =
    let small = (and_parts (is_small (body_of d)) _ sound).0 in
    let inputs = and_parts (nat_le (length d.inputs) 16) _ small in
    let states = (and_parts (nat_le (length d.outputs) 16) _ inputs.1).1 in
    (grind (arith, nat_tests, inputs.0), grind (arith, nat_tests, states))

-- the name of a port is at its slot
pub name_at_slot : (p : GiottoProgram) (task : Option Name) (x : Name) (k : ℕ) → slot_of p task x ≡ Some k → slice_get (port_names p) k ≡ Some (shown_name (record { task = task; name = x }))
name_at_slot p task x k e =
    let port : ProgramPort = record { task = task; name = x } in
    let found = passes_there (is_port task x) 0 (ports_of p) k e in
    let same : k ≡ found.0 = omega (arith, found.2) in
    slice_get-map shown_name (ports_of p) k ∙ ap (λ j. option_map shown_name (slice_get (ports_of p) j)) same ∙ ap (option_map shown_name) found.3 ∙ ap Some (is_this_shown port found.1 found.4)

pub names_at_slots : (p : GiottoProgram) (task : Option Name) (xs : List Name) (ks : List ℕ) → map (slot_of p task) xs ≡ map Some ks
    → map (slice_get (port_names p)) ks ≡ map Some (map (λ x. shown_name (record { task = task; name = x })) xs)
names_at_slots p task [] [] e = refl
names_at_slots p task [] (k ∷ ks) e = absurd (cc)
names_at_slots p task (x ∷ xs) [] e = absurd (cc)
names_at_slots p task (x ∷ xs) (k ∷ ks) e =
    let first : slot_of p task x ≡ Some k = cc in
    let rest : map (slot_of p task) xs ≡ map Some ks = cc in
    let here = name_at_slot p task x k first in
    let others = names_at_slots p task xs ks rest in
    rw (here, others) refl

pub shared_shown : (names : List Name) → map (λ x. shown_name (record { task = None; name = x })) names ≡ names
shared_shown [] = refl
shared_shown (n ∷ ns) = ap (λ ms. n ∷ ms) (shared_shown ns)

-- the names of consecutive ports of a task are at consecutive slots
pub names_in_row : (p : GiottoProgram) (t : Name) (names : List Name) (first : ℕ) → HaveSlotsFrom p t names first
    → map (slice_get (port_names p)) (range_with_len first (length (map (own_port t) names))) ≡ map Some (map (own_port t) names)
names_in_row p t names first slots =
    ap (λ n. map (slice_get (port_names p)) (range_with_len first n)) (length-map names (own_port t)) ∙ names_at_slots p (Some t) names (range_with_len first (length names)) slots

-- a port's slot is its place in the order of ports
pub slot_of_port : (p : GiottoProgram) (k : ℕ) (port : ProgramPort) → all_different (port_names p) ≡ true → slice_get (ports_of p) k ≡ Some port → slot_of p port.task port.name ≡ Some k
slot_of_port p k port different at =
    let lt = slice_get_within (ports_of p) k port at in
    let same : get_or (ports_of p) k port ≡ port = get_or_from_slice_get (ports_of p) k port port at in
    let front = take k (ports_of p) in
    let rest = drop (k + 1) (ports_of p) in
    let cut : ports_of p ≡ front ++ port ∷ rest =
    sym (take-append-drop k (ports_of p)) ∙ ap (λ ps. front ++ ps) (drop_more (ports_of p) k port lt ∙ ap (λ q. q ∷ rest) same) in
    let long : 0 + length front ≡ k = omega (arith, length-take-le k (ports_of p) (omega (arith, lt))) in
    ap (position_from (is_this port) 0) cut ∙ place_of_port 0 front port rest (subst (λ ps. all_different (map shown_name ps) ≡ true) cut different) ∙ ap Some long

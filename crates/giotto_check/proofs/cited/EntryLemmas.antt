-- What the parts of an entry mean.
use Rattle.std.proofs.Common.{◌≡◌, ℕ, ◌+◌, ◌<◌, true, ℤ, List, [], ◌∷◌, length, get_or, map, Option, Some, None, refl, sym, ap, ◌∙◌, arith}
use Rattle.std.specs.List.{list_all, flat_map, position_from, zip}
use Rattle.std.specs.Prelude.{IsSome, IsSomeAnd, IsTrue, is_some, slice_get}
use Rattle.std.proofs.lemmas.Bool.{false≢true}
use Rattle.std.proofs.lemmas.List.{length-append, length-map}
use Rattle.std.proofs.lemmas.Option.{slice_get-get_or}
use Rattle.giotto_tasks.specs.declared.names.Name.{Name}
use Rattle.giotto_tasks.specs.cited.DriverCode.{driver_value}
use Rattle.giotto_tasks.specs.Meaning.{value_of}
use Rattle.giotto_tasks.specs.Names.{same_name, is_among}
use Rattle.giotto_tasks.specs.Syntax.{Expression}
use Rattle.giotto_tasks.proofs.cited.ListLemmas.{found_has}
use Rattle.giotto_tasks.proofs.cited.NameLemmas.{among_passes, weaker_all}
use Rattle.giotto_rules.specs.text.Program.{TaskDeclaration, ModeDeclaration, ModeSwitch, GiottoProgram}
use Rattle.giotto_rules.specs.declared.text.programs.Mode.{Mode}
use Rattle.giotto_rules.specs.declared.text.programs.Task.{Task}
use Rattle.giotto_rules.specs.text.ProgramTrees as trees
use Rattle.giotto_rules.specs.Declarations.{driver_ports, names_read, mode_named, task_named, mode_ports, output_names, destinations_of}
use Rattle.giotto_check.specs.cited.Facts.{ModeFits, ProgramFits}
use Rattle.giotto_rules.specs.Ports.{shared_port, shown_name, slot_of, ports_of_task}
use Rattle.giotto_check.specs.cited.Slots.{slots_of}
use Rattle.giotto_check.specs.cited.Timetables.{AreEach, AreTaskSlots, HaveSlotsFrom, IsDestination, IsExpression, place_of_mode, place_of_task}
use Rattle.giotto_check.specs.declared.timetables.SlotDestination.{SlotDestination}
use Rattle.giotto_check.specs.declared.timetables.SlotExpr.{SlotExpr}
use Rattle.giotto_check.specs.declared.timetables.TaskSlots.{TaskSlots}
use Rattle.giotto_check.proofs.cited.EachLemmas.{each_at, each_long}
use Rattle.giotto_check.proofs.ExpressionLemmas.{value_of_first}
use Rattle.giotto_check.proofs.cited.PlaceLemmas.{place-map, place_if_found, place_within, found_there}
use Rattle.giotto_check.proofs.cited.SlotLemmas.{port_names_begin}

-- code over the names that drivers may read is code over all ports
pub is_expression : (p : GiottoProgram) (e : Expression) (c : SlotExpr) (names : List Name) → names ≡ driver_ports p → list_all (is_among (driver_ports p)) (names_read e) ≡ true
    → ((values : List ℤ) → driver_value c.code values ≡ value_of e (zip names values)) → IsExpression p e c
is_expression p e c names is reads code values long =
    let rest = flat_map ports_of_task p.tasks in
    let count : slots_of p ≡ length (driver_ports p) + length rest = length-append (map shared_port (driver_ports p)) rest ∙ ap (λ n. n + length rest) (length-map (driver_ports p) shared_port) in
    code values ∙ ap (λ ns. value_of e (zip ns values)) is ∙ sym (value_of_first e (driver_ports p) (map shown_name rest) values reads (omega (arith, long, count)))
    ∙ ap (λ ns. value_of e (zip ns values)) (sym (port_names_begin p))

-- the place of the mode with this name
pub mode_found : (p : GiottoProgram) (x : Name) (modes : List Mode) (r : Option ℕ) → r ≡ position_from (λ (m : Mode). same_name m.name x) 0 modes → map trees.mode_of modes ≡ p.modes → place_of_mode p x ≡ r
mode_found p x modes r e is =
    let test = λ (m : ModeDeclaration). same_name m.name x in
    ap (position_from test 0) (sym is) ∙ place-map test trees.mode_of 0 modes ∙ sym e

pub mode_there : (p : GiottoProgram) (x : Name) → IsSome (mode_named p x) → place_of_mode p x ≡ None → ⊥
mode_there p x there none = false≢true (sym (ap is_some none) ∙ place_if_found (λ (m : ModeDeclaration). same_name m.name x) 0 p.modes ∙ there)

-- the place of the task with this name
pub task_found : (p : GiottoProgram) (x : Name) (tasks : List Task) (r : Option ℕ) → r ≡ position_from (λ (t : Task). same_name t.name x) 0 tasks → map trees.task_of tasks ≡ p.tasks → place_of_task p x ≡ r
task_found p x tasks r e is =
    let test = λ (t : TaskDeclaration). same_name t.name x in
    ap (position_from test 0) (sym is) ∙ place-map test trees.task_of 0 tasks ∙ sym e

pub task_there : (p : GiottoProgram) (x : Name) → IsSome (task_named p x) → place_of_task p x ≡ None → ⊥
task_there p x there none = false≢true (sym (ap is_some none) ∙ place_if_found (λ (t : TaskDeclaration). same_name t.name x) 0 p.tasks ∙ there)

-- a switch gives values only to outputs
pub destinations_are_outputs : (p : GiottoProgram) (s : ModeSwitch) → ProgramFits p → IsSomeAnd (mode_named p s.target) (λ m. IsTrue (list_all (is_among (mode_ports p m)) (destinations_of s)))
    → list_all (is_among (output_names p)) (destinations_of s) ≡ true
destinations_are_outputs p s fits target = by (mode_named p s.target) refl target
  where
    by : (o : Option ModeDeclaration) → mode_named p s.target ≡ o → IsSomeAnd o (λ m. IsTrue (list_all (is_among (mode_ports p m)) (destinations_of s))) → list_all (is_among (output_names p)) (destinations_of s) ≡ true
    by None e t = absurd t
    by (Some m) e t =
        let m_fits = found_has (ModeFits p) (λ (n : ModeDeclaration). same_name n.name s.target) p.modes m fits.modes e in
        weaker_all (mode_ports p m) (output_names p) (λ x h. among_passes (is_among (output_names p)) (mode_ports p m) x m_fits.ports_are_outputs h) (destinations_of s) t

-- the slots of the task with this name
pub task_within : (p : GiottoProgram) (x : Name) (tasks : List TaskSlots) (k : ℕ) → AreEach (AreTaskSlots p) p.tasks tasks → place_of_task p x ≡ Some k → k < length tasks
task_within p x tasks k each place = omega (arith, place_within (λ (t : TaskDeclaration). same_name t.name x) 0 p.tasks k place, each_long (AreTaskSlots p) p.tasks tasks each)

pub inputs_there : (p : GiottoProgram) (x : Name) (n : ℕ) (tasks : List TaskSlots) (k : ℕ) (other : TaskSlots) → AreEach (AreTaskSlots p) p.tasks tasks → place_of_task p x ≡ Some k
    → IsSomeAnd (task_named p x) (λ t. n ≡ length t.inputs) → IsSomeAnd (task_named p x) (λ t. HaveSlotsFrom p t.name t.inputs (get_or tasks k other).inputs)
inputs_there p x n tasks k other each place there = by (task_named p x) refl there
  where
    by : (o : Option TaskDeclaration) → task_named p x ≡ o → IsSomeAnd o (λ t. n ≡ length t.inputs) → IsSomeAnd o (λ t. HaveSlotsFrom p t.name t.inputs (get_or tasks k other).inputs)
    by None e t = absurd t
    by (Some d) e t =
        let here = found_there (λ (t : TaskDeclaration). same_name t.name x) 0 p.tasks k d place e in
        let same : k ≡ here.0 = omega (arith, here.1) in
        (each_at (AreTaskSlots p) p.tasks tasks k d (get_or tasks k other) each (ap (slice_get p.tasks) same ∙ here.2) (slice_get-get_or tasks k other (task_within p x tasks k each place))).inputs

pub task_is : (p : GiottoProgram) (x : Name) (n : ℕ) → IsSomeAnd (task_named p x) (λ t. n ≡ length t.inputs) → IsSome (task_named p x)
task_is p x n there = by (task_named p x) there
  where
    by : (o : Option TaskDeclaration) → IsSomeAnd o (λ t. n ≡ length t.inputs) → IsSome o
    by None t = absurd t
    by (Some d) t = refl

pub mode_is : (p : GiottoProgram) (x : Name) (P : ModeDeclaration → Type 0) → IsSomeAnd (mode_named p x) P → IsSome (mode_named p x)
mode_is p x P there = by (mode_named p x) there
  where
    by : (o : Option ModeDeclaration) → IsSomeAnd o P → IsSome o
    by None t = absurd t
    by (Some d) t = refl

-- the slots of a switch's destinations, in order
pub destination_slots : (p : GiottoProgram) (ds : List (Name × Expression)) (entries : List SlotDestination) → AreEach (IsDestination p) ds entries
    → map (slot_of p None) (map (λ (d : Name × Expression). d.0) ds) ≡ map Some (map (λ (e : SlotDestination). e.output) entries)
destination_slots p [] [] each = refl
destination_slots p [] (e ∷ es) each = absurd each
destination_slots p (d ∷ ds) [] each = absurd each
destination_slots p (d ∷ ds) (e ∷ es) each =
    let first = each.0.output in
    let rest = destination_slots p ds es each.1 in
    rw (first, rest) refl

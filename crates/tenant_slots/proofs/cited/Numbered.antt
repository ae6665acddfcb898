-- Modes and tasks by their places, and ports by their slots, in a well-formed program.
use Rattle.std.proofs.Common.{◌≡◌, ℕ, zero, suc, ◌+◌, ◌<◌, ◌%◌, ◌==◌, nat_eq, true, false, not, cond, List, [], ◌∷◌, ◌++◌, length, map, get_or, Option, Some, sym, ap, subst, ◌∙◌, arith}
use Rattle.std.specs.Prelude.{slice_get}
use Rattle.std.specs.List.{AllByRecursion, find, position_from}
use Rattle.std.specs.Option.{option_map_or}
use Rattle.std.proofs.lemmas.Bool.{and_parts, or_left, or_right, false≢true, false_from_ne_true, eqb-true, eq-eqb}
use Rattle.std.proofs.lemmas.Option.{slice_get-get_or, slice_get_within}
use Rattle.giotto_tasks.specs.declared.names.Name.{Name}
use Rattle.giotto_tasks.specs.Names.{same_name, is_among}
use Rattle.giotto_tasks.specs.Sound.{all_different}
use Rattle.giotto_tasks.proofs.cited.ListLemmas.{found_has, some_same}
use Rattle.giotto_tasks.proofs.cited.NameLemmas.{same_name_is, same_name_self, all_different-append}
use Rattle.giotto_tasks.proofs.cited.TestLemmas.{same_answers}
use Rattle.rig_model.specs.text.Program.{TaskDeclaration, ActuatorUpdate, ModeSwitch, TaskInvocation, ModeDeclaration, GiottoProgram}
use Rattle.rig_model.specs.rules.Declarations.{sensor_names, actuator_names, output_names, task_names, mode_names, task_named, mode_named}
use Rattle.giotto_check.specs.cited.Facts.{UpdateFits, SwitchFits, InvocationFits, ModeFits, TaskFits, ProgramFits}
use Rattle.rig_model.specs.rules.Ports.{is_port, ports_of, slot_of}
use Rattle.giotto_check.specs.cited.Slots.{slots_of}
use Rattle.giotto_check.specs.cited.Timetables.{AreEach, IsUpdate, IsExit, IsInvocation, AreTaskSlots, place_of_task}
use Rattle.giotto_check.specs.declared.timetables.SlotUpdate.{SlotUpdate}
use Rattle.giotto_check.specs.declared.timetables.SlotExit.{SlotExit}
use Rattle.giotto_check.specs.declared.timetables.SlotInvocation.{SlotInvocation}
use Rattle.giotto_check.specs.declared.timetables.TaskSlots.{TaskSlots}
use Rattle.giotto_check.proofs.cited.EachLemmas.{each_at, each_long}
use Rattle.giotto_check.proofs.cited.PlaceLemmas.{found_there, place_within, passes_there}
use Rattle.rig_model.specs.Due.{is_due_at}
use Rattle.tenant_slots.specs.Places.{name_of_task, name_of_mode}

-- an item whose name is different from all others is found by its name, at its place
module _ {A : Type 0} (name : A → Name) where
  named : (xs : List A) (k : ℕ) (a : A) → slice_get xs k ≡ Some a → is_among (map name xs) (name a) ≡ true
  named [] k a at = absurd (cc)
  named (x ∷ xs) zero a at = or_left _ _ (subst (λ y. same_name (name x) (name y) ≡ true) (some_same x a at) (same_name_self (name x)))
  named (x ∷ xs) (suc k) a at = or_right (same_name (name x) (name a)) _ (named xs k a at)

  apart : (x : A) (xs : List A) (k : ℕ) (a : A) → all_different (map name (x ∷ xs)) ≡ true → slice_get xs k ≡ Some a → same_name (name x) (name a) ≡ false
  apart x xs k a once at = false_from_ne_true _ (λ same.
      let none = (and_parts (not (is_among (map name xs) (name x))) _ once).0 in
      false≢true (ap not (sym (named xs k a at) ∙ ap (is_among (map name xs)) (sym (same_name_is (name x) (name a) same))) ∙ none))

  pub found_by_name : (xs : List A) (k : ℕ) (a : A) → all_different (map name xs) ≡ true → slice_get xs k ≡ Some a → find (λ y. same_name (name y) (name a)) xs ≡ Some a
  found_by_name [] k a once at = absurd (cc)
  found_by_name (x ∷ xs) zero a once at =
      let same = some_same x a at in
      ap (λ b. cond b (Some x) (find (λ y. same_name (name y) (name a)) xs)) (subst (λ y. same_name (name x) (name y) ≡ true) same (same_name_self (name x))) ∙ at
  found_by_name (x ∷ xs) (suc k) a once at =
      ap (λ b. cond b (Some x) (find (λ y. same_name (name y) (name a)) xs)) (apart x xs k a once at)
      ∙ found_by_name xs k a (and_parts (not (is_among (map name xs) (name x))) (all_different (map name xs)) once).1 at

  pub place_by_name : (xs : List A) (i k : ℕ) (a : A) → all_different (map name xs) ≡ true → slice_get xs k ≡ Some a → position_from (λ y. same_name (name y) (name a)) i xs ≡ Some (i + k)
  place_by_name [] i k a once at = absurd (cc)
  place_by_name (x ∷ xs) i zero a once at =
      let same = some_same x a at in
      ap (λ b. cond b (Some i) (position_from (λ y. same_name (name y) (name a)) (i + 1) xs)) (subst (λ y. same_name (name x) (name y) ≡ true) same (same_name_self (name x))) ∙ ap Some (omega arith)
  place_by_name (x ∷ xs) i (suc k) a once at =
      ap (λ b. cond b (Some i) (position_from (λ y. same_name (name y) (name a)) (i + 1) xs)) (apart x xs k a once at)
      ∙ place_by_name xs (i + 1) k a (and_parts (not (is_among (map name xs) (name x))) (all_different (map name xs)) once).1 at ∙ ap Some (omega arith)

-- the second of two lists whose names are all different
different_last : (xs ys : List Name) → all_different (xs ++ ys) ≡ true → all_different ys ≡ true
different_last xs ys h = (and_parts (all_different ys) _ (and_parts (all_different xs) _ (sym (all_different-append xs ys) ∙ h)).1).0

module _ (p : GiottoProgram) (fits : ProgramFits p) where
  declared : all_different (task_names p ++ mode_names p) ≡ true
  declared = different_last (output_names p) _ (different_last (actuator_names p) _ (different_last (sensor_names p) _ fits.declared_once))

  tasks_once : all_different (task_names p) ≡ true
  tasks_once = (and_parts (all_different (task_names p)) _ (sym (all_different-append (task_names p) (mode_names p)) ∙ declared)).0

  modes_once : all_different (mode_names p) ≡ true
  modes_once = different_last (task_names p) (mode_names p) declared

  -- the mode at a place is the mode of its name
  pub mode_here : (k : ℕ) (m : ModeDeclaration) → slice_get p.modes k ≡ Some m → mode_named p (name_of_mode p k) ≡ Some m
  mode_here k m at =
      ap (λ o. mode_named p (option_map_or (λ (m : ModeDeclaration). m.name) o [])) at ∙ found_by_name (λ (m : ModeDeclaration). m.name) p.modes k m modes_once at

  pub mode_fits_at : (k : ℕ) (m : ModeDeclaration) → slice_get p.modes k ≡ Some m → ModeFits p m
  mode_fits_at k m at = found_has (ModeFits p) (λ (n : ModeDeclaration). same_name n.name (name_of_mode p k)) p.modes m fits.modes (mode_here k m at)

  pub name_here : (k : ℕ) (t : TaskDeclaration) → slice_get p.tasks k ≡ Some t → name_of_task p k ≡ t.name
  name_here k t at = ap (λ o. option_map_or (λ (t : TaskDeclaration). t.name) o []) at

  -- the task at a place is the task of its name
  pub task_here : (k : ℕ) (t : TaskDeclaration) → slice_get p.tasks k ≡ Some t → task_named p (name_of_task p k) ≡ Some t
  task_here k t at = ap (task_named p) (name_here k t at) ∙ found_by_name (λ (t : TaskDeclaration). t.name) p.tasks k t tasks_once at

  pub task_fits_at : (k : ℕ) (t : TaskDeclaration) → slice_get p.tasks k ≡ Some t → TaskFits p t
  task_fits_at k t at = found_has (TaskFits p) (λ (u : TaskDeclaration). same_name u.name (name_of_task p k)) p.tasks t fits.tasks (task_here k t at)

  -- the task of this name is at the place of the name
  pub task_of_place : (x : Name) (k : ℕ) (t : TaskDeclaration) → place_of_task p x ≡ Some k → task_named p x ≡ Some t → slice_get p.tasks k ≡ Some t
  task_of_place x k t place found =
      let there = found_there (λ (t : TaskDeclaration). same_name t.name x) 0 p.tasks k t place found in
      ap (slice_get p.tasks) (omega (arith, there.1)) ∙ there.2

  -- a task at a place has a name exactly if the place is that of the name
  pub same_task : (j k : ℕ) (t : TaskDeclaration) (x : Name) → slice_get p.tasks j ≡ Some t → place_of_task p x ≡ Some k → same_name (name_of_task p j) x ≡ nat_eq j k
  same_task j k t x at place = ap (λ n. same_name n x) (name_here j t at) ∙ same_answers (same_name t.name x) (nat_eq j k) there back
    where
      own : place_of_task p t.name ≡ Some j
      own = place_by_name (λ (t : TaskDeclaration). t.name) p.tasks 0 j t tasks_once at ∙ ap Some (omega arith)

      there : same_name t.name x ≡ true → nat_eq j k ≡ true
      there same = eq-eqb j k (some_same j k (sym own ∙ ap (place_of_task p) (same_name_is t.name x same) ∙ place))

      back : nat_eq j k ≡ true → same_name t.name x ≡ true
      back e =
          let found = passes_there (λ (t : TaskDeclaration). same_name t.name x) 0 p.tasks k place in
          let here : found.0 ≡ j = omega (arith, found.2, eqb-true j k e) in
          let same : found.1 ≡ t = some_same found.1 t (sym found.3 ∙ ap (slice_get p.tasks) here ∙ at) in
          subst (λ (u : TaskDeclaration). same_name u.name x ≡ true) same found.4

  -- the intervals of a mode's lines
  pub update_interval : (m : ModeDeclaration) (u : ActuatorUpdate) (e : SlotUpdate) → UpdateFits p m u → IsUpdate p m u e → 0 < e.interval
  update_interval m u e f is = subst (λ n. 0 < n) (sym is.interval) f.frequency.interval

  pub exit_interval : (m : ModeDeclaration) (s : ModeSwitch) (e : SlotExit) → SwitchFits p m s → IsExit p m s e → 0 < e.interval
  exit_interval m s e f is = subst (λ n. 0 < n) (sym is.interval) f.frequency.interval

  pub invocation_interval : (m : ModeDeclaration) (i : TaskInvocation) (e : SlotInvocation) → InvocationFits p m i → IsInvocation p m i e → 0 < e.interval
  invocation_interval m i e f is = subst (λ n. 0 < n) (sym is.interval) f.frequency.interval

  pub update_due : (time : ℕ) (m : ModeDeclaration) (u : ActuatorUpdate) (e : SlotUpdate) → IsUpdate p m u e → (time % e.interval == 0) ≡ is_due_at time m u.frequency
  update_due time m u e is = ap (λ n. time % n == 0) is.interval

  pub exit_due : (time : ℕ) (m : ModeDeclaration) (s : ModeSwitch) (e : SlotExit) → IsExit p m s e → (time % e.interval == 0) ≡ is_due_at time m s.frequency
  exit_due time m s e is = ap (λ n. time % n == 0) is.interval

  pub invocation_due : (time : ℕ) (m : ModeDeclaration) (i : TaskInvocation) (e : SlotInvocation) → IsInvocation p m i e → (time % e.interval == 0) ≡ is_due_at time m i.frequency
  invocation_due time m i e is = ap (λ n. time % n == 0) is.interval

  pub update_intervals : (m : ModeDeclaration) → ModeFits p m → (es : List SlotUpdate) → AreEach (IsUpdate p m) m.updates es → AllByRecursion (λ (e : SlotUpdate). 0 < e.interval) es
  update_intervals m f es each = along m.updates es f.updates each
    where
      along : (us : List ActuatorUpdate) (es : List SlotUpdate) → AllByRecursion (UpdateFits p m) us → AreEach (IsUpdate p m) us es → AllByRecursion (λ (e : SlotUpdate). 0 < e.interval) es
      along [] [] all each = tt
      along [] (e ∷ es) all each = absurd each
      along (u ∷ us) [] all each = absurd each
      along (u ∷ us) (e ∷ es) all each = (update_interval m u e all.0 each.0, along us es all.1 each.1)

  pub exit_intervals : (m : ModeDeclaration) → ModeFits p m → (es : List SlotExit) → AreEach (IsExit p m) m.switches es → AllByRecursion (λ (e : SlotExit). 0 < e.interval) es
  exit_intervals m f es each = along m.switches es f.switches each
    where
      along : (ss : List ModeSwitch) (es : List SlotExit) → AllByRecursion (SwitchFits p m) ss → AreEach (IsExit p m) ss es → AllByRecursion (λ (e : SlotExit). 0 < e.interval) es
      along [] [] all each = tt
      along [] (e ∷ es) all each = absurd each
      along (s ∷ ss) [] all each = absurd each
      along (s ∷ ss) (e ∷ es) all each = (exit_interval m s e all.0 each.0, along ss es all.1 each.1)

  pub invocation_intervals : (m : ModeDeclaration) → ModeFits p m → (es : List SlotInvocation) → AreEach (IsInvocation p m) m.invocations es → AllByRecursion (λ (e : SlotInvocation). 0 < e.interval) es
  invocation_intervals m f es each = along m.invocations es f.invocations each
    where
      along : (is : List TaskInvocation) (es : List SlotInvocation) → AllByRecursion (InvocationFits p m) is → AreEach (IsInvocation p m) is es → AllByRecursion (λ (e : SlotInvocation). 0 < e.interval) es
      along [] [] all each = tt
      along [] (e ∷ es) all each = absurd each
      along (i ∷ is) [] all each = absurd each
      along (i ∷ is) (e ∷ es) all each = (invocation_interval m i e all.0 each.0, along is es all.1 each.1)

-- a port's slot is one of the list's
pub slot_within : (p : GiottoProgram) (task : Option Name) (x : Name) (k : ℕ) → slot_of p task x ≡ Some k → k < slots_of p
slot_within p task x k at = let lt = place_within (is_port task x) 0 (ports_of p) k at in omega (arith, lt)

-- the slots of the task at a place
pub task_slots_at : (p : GiottoProgram) (entries : List TaskSlots) (k : ℕ) (t : TaskDeclaration) (d : TaskSlots) → AreEach (AreTaskSlots p) p.tasks entries → slice_get p.tasks k ≡ Some t
    → (k < length entries) × AreTaskSlots p t (get_or entries k d)
task_slots_at p entries k t d each at =
    let within : k < length entries = omega (arith, slice_get_within p.tasks k t at, each_long (AreTaskSlots p) p.tasks entries each) in
    (within, each_at (AreTaskSlots p) p.tasks entries k t (get_or entries k d) each at (slice_get-get_or entries k d within))

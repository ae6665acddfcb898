-- An instant of one tenant, by the definitions. What is active after it was active before, or is released by it. It releases no more than
-- `most_released` says.
use Rattle.std.proofs.Common.{◌≡◌, ℕ, ◌+◌, ◌<◌, ◌≤◌, Bool, true, false, cond, List, [], ◌∷◌, ◌++◌, length, map, filter, Option, Some, None, max, refl, sym, ap, ◌∙◌, subst, append-nil, length-append, arith}
use Rattle.std.specs.Prelude.{◌==◌, ◌&&◌, option_to_list}
use Rattle.std.specs.List.{AllByRecursion, find, fold}
use Rattle.std.specs.Option.{option_map, option_map_or}
use Rattle.std.proofs.Math.Nat.{le-max_left, le-max_right}
use Rattle.std.proofs.lemmas.Bool.{eq-eqb, ne_eqb}
use Rattle.std.proofs.lemmas.List.{length-map}
use Rattle.std.proofs.lemmas.List.Elements.{filter-append}
use Rattle.giotto_tasks.specs.declared.names.Name.{Name}
use Rattle.giotto_tasks.specs.Names.{Valuation}
use Rattle.rig_model.specs.text.Program.{TaskDeclaration, TaskInvocation, ModeSwitch, ModeDeclaration, GiottoProgram}
use Rattle.rig_model.specs.rules.Costs.{greatest}
use Rattle.rig_model.specs.rules.Declarations.{task_named, mode_named}
use Rattle.rig_model.specs.Due.{is_due_at}
use Rattle.rig_model.specs.FirstHalf.{completed_in_mode, first_half_of, first_half_with, stopped_with}
use Rattle.rig_model.specs.Instants.{LocalInstant, after_instant}
use Rattle.rig_model.specs.Ports.{holds}
use Rattle.rig_model.specs.Readings.{Readings}
use Rattle.rig_model.specs.Row.{StopReason, overrun, ActiveTask, Row, is_running, where_some, in_mode}
use Rattle.rig_model.specs.SecondHalf.{installed, replaced_if_due, sensed, entered, switched, released, invoked, all_released, invoked_in_mode, moved_on, second_half_running, second_half_of}
use Rattle.rig_model.specs.Switches.{switch_taken}
use Rattle.instant_engine.specs.state.Jobs.{job_in, released_at}
use Rattle.instant_engine.specs.state.Standing.{invoked_in, most_at, most_in_mode, most_released}
use Rattle.rig_model.specs.declared.trace.records.Record.{Record}
use Rattle.giotto_tasks.proofs.cited.ListLemmas.{filter_shorter}
use Rattle.instant_engine.proofs.of_laws.ActiveTasks.{all_fresh}

-- a filter of what another filter left finds no more
filtered_twice : {X : Type 0} (test kept : X → Bool) (xs : List X) → length (filter test (filter kept xs)) ≤ length (filter test xs)
filtered_twice test kept [] = omega arith
filtered_twice {X = X} test kept (x ∷ xs) = first (kept x) (test x) refl (filtered_twice test kept xs)
  where
    first : (k t : Bool) → test x ≡ t → length (filter test (filter kept xs)) ≤ length (filter test xs)
        → length (filter test (cond k (x ∷ filter kept xs) (filter kept xs))) ≤ length (cond t (x ∷ filter test xs) (filter test xs))
    first true true e le = rw e (omega (arith, le))
    first true false e le = rw e (omega (arith, le))
    first false true e le = omega (arith, le)
    first false false e le = omega (arith, le)

-- the tasks that are active after an instant of this number: some of those before, and those that it released, at most `most`
pub record AreParted (n most : ℕ) (before after : List ActiveTask) : Type 0 where
  pub older : List ActiveTask
  pub newer : List ActiveTask
  pub are : after ≡ older ++ newer
  pub fewer : (test : ActiveTask → Bool) → length (filter test older) ≤ length (filter test before)
  pub fresh : AllByRecursion (λ (a : ActiveTask). a.release ≡ n) newer
  pub few : length newer ≤ most

-- a step that releases nothing: some of its row's tasks are still active, and no more tasks can be released than before
record IsLess (row after : Row) : Type 0 where
  number : after.next_tick ≡ row.next_tick
  most : most_released after ≤ most_released row
  fewer : (test : ActiveTask → Bool) → length (filter test after.active) ≤ length (filter test row.active)

same_row : (row : Row) → IsLess row row
same_row row = record { number = refl; most = omega arith; fewer = λ test. omega arith }

none_released : (n most : ℕ) (active : List ActiveTask) → AreParted n most active active
none_released n most active = record { older = active; newer = []; are = sym (append-nil active); fewer = λ test. omega arith; fresh = tt; few = omega arith }

-- what can be released depends on the program, the mode, its time and the waiting program
most_as_before : (row : Row) (active : List ActiveTask) (ports : Valuation) (records : List Record)
    → most_released (record row { active = active; ports = ports; records = records }) ≡ most_released row
most_as_before row active ports records = ap (λ n. cond (is_running row) n 0) (by (row.mode_time == 0) row.waiting row.program)
  where
    by : (b : Bool) (w o : Option GiottoProgram)
        → most_in_mode (cond b (where_some installed w (record row { program = o; active = active; ports = ports; records = records })) (record row { program = o; active = active; ports = ports; records = records }))
        ≡ most_in_mode (cond b (where_some installed w (record row { program = o })) (record row { program = o }))
    by false w o = refl
    by true None o = refl
    by true (Some new) None = refl
    by true (Some new) (Some old) = refl

-- the first half

stopped_less : (reason : StopReason) (row : Row) → IsLess row (stopped_with reason row)
stopped_less reason row = by row.program
  where
    by : (o : Option GiottoProgram) → IsLess row (stopped_with reason (record row { program = o }))
    by None = record { number = refl; most = omega arith; fewer = λ test. omega arith }
    by (Some p) = record { number = refl; most = omega arith; fewer = λ test. omega arith }

completed_less : (p : GiottoProgram) (m : ModeDeclaration) (row : Row) → IsLess row (completed_in_mode p m row)
completed_less p m row =
    let after = completed_in_mode p m row in
    record { number = refl; most = omega (arith, most_as_before row after.active after.ports after.records); fewer = λ test. filtered_twice test _ row.active }

running_less : (row : Row) → IsLess row (in_mode completed_in_mode row)
running_less row = in_program row.program
  where
    in_its : (p : GiottoProgram) (o : Option ModeDeclaration) → IsLess row (where_some (completed_in_mode p) o row)
    in_its p None = same_row row
    in_its p (Some m) = completed_less p m row

    in_program : (o : Option GiottoProgram) → IsLess row (where_some (λ p. where_some (completed_in_mode p) (mode_named p row.mode)) o row)
    in_program None = same_row row
    in_program (Some p) = in_its p (mode_named p row.mode)

first_half_less : (unfinished : List Name) (row : Row) → IsLess row (first_half_of unfinished row)
first_half_less unfinished row = by _
  where
    ends : (runs : Bool) → IsLess row (cond runs (in_mode completed_in_mode row) row)
    ends true = running_less row
    ends false = same_row row

    by : (xs : List Name) → IsLess row (first_half_with xs row)
    by [] = ends (is_running row)
    by (x ∷ xs) = stopped_less (overrun x) row

-- a mode's invocations release no more tasks than are due
few_due : (p : GiottoProgram) (m : ModeDeclaration) (time n : ℕ) (is : List TaskInvocation) (ports : Valuation)
    → length (all_released p m time n is ports) ≤ length (filter (λ (i : TaskInvocation). is_due_at time m i.frequency) is)
few_due p m time n [] ports = omega arith
few_due p m time n (i ∷ is) ports =
    first (is_due_at time m i.frequency) (holds i.guard ports) (task_named p i.task) (all_released p m time n is (invoked p m time i ports)) (filter (λ (i : TaskInvocation). is_due_at time m i.frequency) is)
    (few_due p m time n is (invoked p m time i ports))
  where
    first : (due opens : Bool) (o : Option TaskDeclaration) (later : List ActiveTask) (others : List TaskInvocation) → length later ≤ length others
        → length (cond (due && opens) (option_to_list (option_map (released n i ports) o)) [] ++ later) ≤ length (cond due (i ∷ others) others)
    first false opens o later others le = le
    first true false o later others le = omega (arith, le)
    first true true None later others le = omega (arith, le)
    first true true (Some t) later others le = omega (arith, le)

-- the first element that passes two tests is no more than the greatest of those that pass one
start_within : (a : ℕ) (ns : List ℕ) → a ≤ fold max a ns
start_within a [] = omega arith
start_within a (n ∷ ns) = omega (arith, start_within (max a n) ns)

found_within : {X : Type 0} (f : X → ℕ) (one other : X → Bool) (a : ℕ) (xs : List X) (x : X) → find (λ y. one y && other y) xs ≡ Some x → f x ≤ fold max a (map f (filter one xs))
found_within f one other a [] x e = absurd (cc)
found_within {X = X} f one other a (y ∷ ys) x e = first (one y) (other y) e (λ b. found_within f one other b ys x)
  where
    first : (b c : Bool) → cond (b && c) (Some y) (find (λ y. one y && other y) ys) ≡ Some x → ((k : ℕ) → find (λ y. one y && other y) ys ≡ Some x → f x ≤ fold max k (map f (filter one ys)))
        → f x ≤ fold max a (map f (cond b (y ∷ filter one ys) (filter one ys)))
    first true true e later =
        let same : y ≡ x = cc in
        omega (arith, ap f same, start_within (max a (f y)) (map f (filter one ys)))
    first true false e later = later (max a (f y)) e
    first false c e later = later a e

-- the second half

in_its_mode : (step : GiottoProgram → ModeDeclaration → Row → Row) (row : Row) (p : GiottoProgram) (m : ModeDeclaration) → row.program ≡ Some p → mode_named p row.mode ≡ Some m
    → in_mode step row ≡ step p m row
in_its_mode step row p m e f = ap (λ o. where_some (λ p. where_some (step p) (mode_named p row.mode)) o row) e ∙ ap (λ o. where_some (step p) o row) f

-- after an installation
record IsInstalled (row after : Row) : Type 0 where
  number : after.next_tick ≡ row.next_tick
  fewer : (test : ActiveTask → Bool) → length (filter test after.active) ≤ length (filter test row.active)

replaced_less : (row : Row) → IsInstalled row (replaced_if_due row)
replaced_less row = by (row.mode_time == 0) row.waiting row.program
  where
    by : (b : Bool) (w o : Option GiottoProgram) → IsInstalled row (cond b (where_some installed w (record row { program = o })) (record row { program = o }))
    by false w o = record { number = refl; fewer = λ test. omega arith }
    by true None o = record { number = refl; fewer = λ test. omega arith }
    by true (Some new) None = record { number = refl; fewer = λ test. omega arith }
    by true (Some new) (Some old) = record { number = refl; fewer = λ test. omega arith }

-- tasks are parted in the same way before some of them ended
parted_before : {n m most least : ℕ} {before middle after : List ActiveTask} → n ≡ m → least ≤ most → ((test : ActiveTask → Bool) → length (filter test middle) ≤ length (filter test before))
    → AreParted n least middle after → AreParted m most before after
parted_before same le fewer parts = record {
  older = parts.older;
  newer = parts.newer;
  are = parts.are;
  fewer = λ test. omega (arith, parts.fewer test, fewer test);
  fresh = subst (λ k. AllByRecursion (λ (a : ActiveTask). a.release ≡ k) parts.newer) same parts.fresh;
  few = omega (arith, parts.few, le);
}

module _ (readings : Readings) (granted : Valuation) where
  -- the steps of a running tenant after an installation
  abbrev switching : Row → Row
  switching row = in_mode (λ p m row. switched p m (sensed readings granted p row)) row

  abbrev invoking : Row → Row
  invoking row = in_mode (λ p m row. moved_on m (invoked_in_mode p m row)) row

  abbrev due_in : ModeDeclaration → ℕ → ℕ
  due_in m time = length (filter (λ (i : TaskInvocation). is_due_at time m i.frequency) m.invocations)

  invoking_parts : (row : Row) (p : GiottoProgram) (m : ModeDeclaration) → row.program ≡ Some p → mode_named p row.mode ≡ Some m → AreParted row.next_tick (due_in m row.mode_time) row.active (invoking row).active
  invoking_parts row p m e f = record {
    older = row.active;
    newer = all_released p m row.mode_time row.next_tick m.invocations row.ports;
    are = ap (λ (r : Row). r.active) (in_its_mode (λ p m row. moved_on m (invoked_in_mode p m row)) row p m e f);
    fewer = λ test. omega arith;
    fresh = all_fresh (λ (a : ActiveTask). a.release ≡ row.next_tick) row.next_tick (λ a same. same) p m row.mode_time row.next_tick refl m.invocations row.ports;
    few = few_due p m row.mode_time row.next_tick m.invocations row.ports;
  }

  -- a row whose sensors were read, in mode m of program p
  switch_parts : (row : Row) (p : GiottoProgram) (m : ModeDeclaration) → row.program ≡ Some p → mode_named p row.mode ≡ Some m
      → AreParted row.next_tick (most_at p m row.mode_time) row.active (invoking (switched p m row)).active
  switch_parts row p m e f = taken (switch_taken m row.mode_time row.ports) refl
    where
      none_taken : AreParted row.next_tick (most_at p m row.mode_time) row.active (invoking row).active
      none_taken = parted_before refl (le-max_left _ _) (λ test. omega arith) (invoking_parts row p m e f)

      entering : (s : ModeSwitch) → switch_taken m row.mode_time row.ports ≡ Some s → (o : Option ModeDeclaration) → mode_named p s.target ≡ o
          → AreParted row.next_tick (most_at p m row.mode_time) row.active (invoking (where_some (entered m s) o row)).active
      entering s is None there = none_taken
      entering s is (Some t) there =
          let invokes : ModeSwitch → ℕ = λ s. invoked_in p s.target in
          let all : invokes s ≡ length t.invocations = ap (λ o. option_map_or (λ (m : ModeDeclaration). length m.invocations) o 0) there in
          let those : List ℕ = map invokes (filter (λ (s : ModeSwitch). is_due_at row.mode_time m s.frequency) m.switches) in
          let among : invokes s ≤ greatest those =
          found_within invokes (λ (s : ModeSwitch). is_due_at row.mode_time m s.frequency) (λ (s : ModeSwitch). holds s.guard row.ports) 0 m.switches s is in
          let behind : Row = entered m s t row in
          let due = filter_shorter (λ (i : TaskInvocation). is_due_at behind.mode_time t i.frequency) t.invocations in
          let bound : greatest those ≤ most_at p m row.mode_time = le-max_right (due_in m row.mode_time) (greatest those) in
          parted_before refl (omega (arith, due, all, among, bound)) (λ test. omega arith) (invoking_parts behind p t e there)

      taken : (o : Option ModeSwitch) → switch_taken m row.mode_time row.ports ≡ o
          → AreParted row.next_tick (most_at p m row.mode_time) row.active (invoking (where_some (λ s. where_some (entered m s) (mode_named p s.target)) o row)).active
      taken None is = none_taken
      taken (Some s) is = entering s is (mode_named p s.target) refl

  running_parts : (row : Row) → AreParted row.next_tick (most_in_mode row) row.active (invoking (switching row)).active
  running_parts row = in_program row.program refl
    where
      in_its : (p : GiottoProgram) → row.program ≡ Some p → (o : Option ModeDeclaration) → mode_named p row.mode ≡ o
          → AreParted row.next_tick (option_map_or (λ m. most_at p m row.mode_time) o 0) row.active (invoking (switching row)).active
      in_its p e None f =
          let stays = λ (step : GiottoProgram → ModeDeclaration → Row → Row).
          ap (λ o. where_some (λ p. where_some (step p) (mode_named p row.mode)) o row) e ∙ ap (λ o. where_some (step p) o row) f in
          subst (λ (r : Row). AreParted row.next_tick 0 row.active r.active)
          (sym (ap invoking (stays (λ p m row. switched p m (sensed readings granted p row))) ∙ stays (λ p m row. moved_on m (invoked_in_mode p m row))))
          (none_released row.next_tick 0 row.active)
      in_its p e (Some m) f =
          subst (λ (r : Row). AreParted row.next_tick (most_at p m row.mode_time) row.active (invoking r).active)
          (sym (in_its_mode (λ p m row. switched p m (sensed readings granted p row)) row p m e f))
          (switch_parts (sensed readings granted p row) p m e f)

      in_program : (o : Option GiottoProgram) → row.program ≡ o
          → AreParted row.next_tick (option_map_or (λ p. option_map_or (λ m. most_at p m row.mode_time) (mode_named p row.mode) 0) o 0) row.active (invoking (switching row)).active
      in_program (Some p) e = in_its p e (mode_named p row.mode) refl
      in_program None e =
          let stays = λ (step : GiottoProgram → ModeDeclaration → Row → Row). ap (λ o. where_some (λ p. where_some (step p) (mode_named p row.mode)) o row) e in
          subst (λ (r : Row). AreParted row.next_tick 0 row.active r.active)
          (sym (ap invoking (stays (λ p m row. switched p m (sensed readings granted p row))) ∙ stays (λ p m row. moved_on m (invoked_in_mode p m row))))
          (none_released row.next_tick 0 row.active)

  second_half_parts : (row : Row) → AreParted row.next_tick (most_released row) row.active (second_half_of readings granted row).active
  second_half_parts row = by (is_running row)
    where
      by : (runs : Bool) → AreParted row.next_tick (cond runs (most_in_mode (replaced_if_due row)) 0) row.active (cond runs (second_half_running readings granted row) row).active
      by true = let less = replaced_less row in parted_before less.number (omega arith) less.fewer (running_parts (replaced_if_due row))
      by false = none_released row.next_tick 0 row.active

-- both halves
pub parts_of_instant : (i : LocalInstant) (row : Row) → AreParted row.next_tick (most_released row) row.active (after_instant i row).active
parts_of_instant i row =
    let less = first_half_less i.unfinished row in
    parted_before less.number less.most less.fewer (second_half_parts i.readings i.granted (first_half_of i.unfinished row))

-- how many tasks have this number
none_of_number : (n : ℕ) (tasks : List ActiveTask) → AllByRecursion (λ (a : ActiveTask). a.release < n) tasks → length (filter (λ (a : ActiveTask). a.release == n) tasks) ≡ 0
none_of_number n [] early = refl
none_of_number n (a ∷ tasks) early =
    let before = early.0 in
    rw (ne_eqb a.release n (λ e. absurd (omega (arith, e, before)))) (none_of_number n tasks early.1)

all_of_number : (n : ℕ) (tasks : List ActiveTask) → AllByRecursion (λ (a : ActiveTask). a.release ≡ n) tasks → length (filter (λ (a : ActiveTask). a.release == n) tasks) ≡ length tasks
all_of_number n [] same = refl
all_of_number n (a ∷ tasks) same =
    let rest = all_of_number n tasks same.1 in
    rw (eq-eqb a.release n same.0) (omega (arith, rest))

module _ {n most : ℕ} {before after : List ActiveTask} (parts : AreParted n most before after) where
  counted : (test : ActiveTask → Bool) → length (filter test after) ≡ length (filter test parts.older) + length (filter test parts.newer)
  counted test = ap (λ tasks. length (filter test tasks)) parts.are ∙ ap length (filter-append test parts.older parts.newer) ∙ length-append (filter test parts.older) (filter test parts.newer)

  -- no more tasks have its number than can be released
  pub few_of_number : AllByRecursion (λ (a : ActiveTask). a.release < n) before → length (filter (λ (a : ActiveTask). a.release == n) after) ≤ most
  few_of_number early =
      omega (
        arith,
        counted (λ (a : ActiveTask). a.release == n),
        parts.fewer (λ (a : ActiveTask). a.release == n),
        none_of_number n before early,
        all_of_number n parts.newer parts.fresh,
        parts.few,
      )

  -- the number of tasks that pass a test grows by no more than those
  pub grown_by_number : (test : ActiveTask → Bool) → length (filter test after) ≤ length (filter test before) + length (filter (λ (a : ActiveTask). a.release == n) after)
  grown_by_number test =
      omega (
        arith,
        counted test,
        parts.fewer test,
        filter_shorter test parts.newer,
        all_of_number n parts.newer parts.fresh,
        counted (λ (a : ActiveTask). a.release == n),
      )

-- an instant released as many jobs, if there is a program
pub jobs_of_number : (t n : ℕ) (row : Row) → length (released_at t n row) ≤ length (filter (λ (a : ActiveTask). a.release == n) row.active)
jobs_of_number t n row = by row.program
  where
    by : (o : Option GiottoProgram) → length (option_map_or (λ p. map (job_in p t) (filter (λ (a : ActiveTask). a.release == n) row.active)) o []) ≤ length (filter (λ (a : ActiveTask). a.release == n) row.active)
    by None = omega arith
    by (Some p) = omega (arith, length-map (filter (λ (a : ActiveTask). a.release == n) row.active) (job_in p t))

pub number_of_jobs : (t n : ℕ) (row : Row) → (row.program ≡ None → row.active ≡ []) → length (filter (λ (a : ActiveTask). a.release == n) row.active) ≤ length (released_at t n row)
number_of_jobs t n row tasks = by row.program refl
  where
    by : (o : Option GiottoProgram) → row.program ≡ o → length (filter (λ (a : ActiveTask). a.release == n) row.active) ≤ length (option_map_or (λ p. map (job_in p t) (filter (λ (a : ActiveTask). a.release == n) row.active)) o [])
    by None e = omega (arith, ap (λ tasks. length (filter (λ (a : ActiveTask). a.release == n) tasks)) (tasks e))
    by (Some p) e = omega (arith, length-map (filter (λ (a : ActiveTask). a.release == n) row.active) (job_in p t))

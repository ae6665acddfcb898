-- What the rules say about a well-formed program: its tasks, and its modes with their updates, switches and invocations.
use Rattle.std.proofs.Common.{◌≡◌, ℕ, zero, suc, ◌/◌, ◌%◌, ◌*◌, ◌≤◌, Bool, true, false, cond, ◌||◌, List, [], ◌∷◌, ◌++◌, length, map, Option, Some, None, refl, sym, subst, ◌∙◌, append_assoc, arith}
use Rattle.std.specs.Prelude.{nat_le, ◌==◌, is_some, IsSomeAnd}
use Rattle.std.specs.List.{list_all, find, flat_map, AllByRecursion}
use Rattle.std.proofs.Math.Nat.{div-add-mod}
use Rattle.std.proofs.lemmas.Bool.{and_parts, and_from, leb-true, eqb-true, false≢true}
use Rattle.std.proofs.lemmas.List.Folds.{list_all-append}
use Rattle.giotto_tasks.specs.declared.names.Name.{Name}
use Rattle.giotto_tasks.specs.Names.{same_name, is_among}
use Rattle.giotto_tasks.specs.Sound.{all_different, block_reads_only, block_assigns_only, is_small}
use Rattle.giotto_tasks.proofs.cited.ListLemmas.{all_zip, all_pass, all_with, found_passes}
use Rattle.giotto_tasks.proofs.cited.NameLemmas.{among_first, among_second, among_turned, apart_from, weaker_all, different_joined}
use Rattle.giotto_rules.specs.text.Depth.{is_shallow_update, is_shallow_switch, is_shallow_invocation, is_shallow_mode, is_shallow_task, is_shallow_program}
use Rattle.giotto_rules.specs.text.Program.{TaskDeclaration, ModeSwitch, TaskInvocation, ModeDeclaration, GiottoProgram, body_of, names_of}
use Rattle.giotto_rules.specs.text.Sound.{IsPrintable}
use Rattle.giotto_rules.specs.Declarations.{sensor_names, actuator_names, output_names, task_names, mode_names, declared_names, outputs_of_task, destinations_of, invoked_tasks, updated_actuators, mode_ports, task_named, mode_named}
use Rattle.giotto_rules.specs.Drivers.{readable_ports, ports_of_target, switch_fits, drivers_fit}
use Rattle.giotto_rules.specs.Frequencies.{divides, frequencies_divide_in}
use Rattle.giotto_rules.specs.Invocations.{has_arguments_for, argument_for_each_input}
use Rattle.giotto_rules.specs.cited.KeepsRules.{KeepsRules}
use Rattle.giotto_rules.specs.Kinds.{kinds_of, task_uses, switch_uses, mode_uses}
use Rattle.giotto_rules.specs.Names.{are_among}
use Rattle.giotto_rules.specs.Rules.{declares_once, uses_right_kinds, bodies_use_own_ports, frequencies_divide, invokes_once, tasks_share_no_output, updates_once, arguments_fit, drivers_read_mode_ports, starts_in_a_mode}
use Rattle.giotto_rules.specs.TaskPorts.{declares_own, uses_own_ports}
use Rattle.giotto_rules.proofs.cited.RulesKept.{rule_kept}
use Rattle.giotto_check.specs.cited.Facts.{IsFrequencyOf, UpdateFits, SwitchFits, InvocationFits, ModeFits, TaskFits, ProgramFits}
use Rattle.giotto_check.proofs.cited.PortsOnce.{ports_different}
use Rattle.giotto_check.proofs.SmallTasks.{small_if_printable}
use Rattle.giotto_check.proofs.SoundNames.{names_have_no_dots}

-- frequencies

-- the number of ticks between two events of a frequency that divides the period
spaced_by : (period w : ℕ) → 1 ≤ period → period % w ≡ 0 → 1 ≤ period / w
spaced_by period w positive divides = apart (period / w) refl
  where
    apart : (q : ℕ) → period / w ≡ q → 1 ≤ q
    apart zero e =
        let whole = div-add-mod period w in
        let none : w * (period / w) ≡ 0 = rw e (mul_zero w) in
        absurd (omega (arith, whole, none, divides, positive))
      where
        mul_zero : (n : ℕ) → n * 0 ≡ 0
        mul_zero n = omega arith
    apart (suc q) e = omega arith

frequency_of : (m : ModeDeclaration) (w : ℕ) → 1 ≤ m.period → divides w m.period ≡ true → IsFrequencyOf m w
frequency_of m w positive h =
    let both = and_parts (nat_le 1 w) (m.period % w == 0) h in
    let divides : m.period % w ≡ 0 = eqb-true _ _ both.1 in
    record { positive = leb-true _ _ both.0; divides = divides; interval = spaced_by m.period w positive divides }

-- lookups by name

found_some : {X : Type 0} (name : X → Name) (xs : List X) (x : Name) → is_among (map name xs) x ≡ true → is_some (find (λ y. same_name (name y) x) xs) ≡ true
found_some name [] x h = absurd (false≢true h)
found_some name (y ∷ ys) x h = by (same_name (name y) x) h (found_some name ys x)
  where
    by : (b : Bool) → (b || is_among (map name ys) x) ≡ true → (is_among (map name ys) x ≡ true → is_some (find (λ y. same_name (name y) x) ys) ≡ true)
        → is_some (cond b (Some y) (find (λ y. same_name (name y) x) ys)) ≡ true
    by true h further = refl
    by false h further = further h

target_fits : (p : GiottoProgram) (ds : List Name) (o : Option ModeDeclaration) → is_some o ≡ true → are_among (ports_of_target p o) ds ≡ true
    → IsSomeAnd o (λ target. are_among (mode_ports p target) ds ≡ true)
target_fits p ds None e h = absurd (false≢true e)
target_fits p ds (Some m) e h = h

arguments_for : (i : TaskInvocation) (o : Option TaskDeclaration) → has_arguments_for i o ≡ true → IsSomeAnd o (λ t. length i.arguments ≡ length t.inputs)
arguments_for i None h = absurd (false≢true h)
arguments_for i (Some t) h = eqb-true _ _ h

-- what follows for each element from a test that all elements pass
passed : {X : Type 0} (test : X → Bool) (xs : List X) → list_all test xs ≡ true → AllByRecursion (λ x. test x ≡ true) xs
passed test xs h = all_pass (λ x. test x ≡ true) test (λ x k. k) xs h

-- what follows for each element from four tests that all elements pass
four_pass : {X : Type 0} (P : X → Type 0) (one two three four : X → Bool)
    → ((x : X) → one x ≡ true → two x ≡ true → three x ≡ true → four x ≡ true → P x) → (xs : List X)
    → list_all one xs ≡ true → list_all two xs ≡ true → list_all three xs ≡ true → list_all four xs ≡ true → AllByRecursion P xs
four_pass P one two three four means [] h k d l = tt
four_pass P one two three four means (x ∷ xs) h k d l =
    let a = and_parts (one x) (list_all one xs) h in
    let b = and_parts (two x) (list_all two xs) k in
    let c = and_parts (three x) (list_all three xs) d in
    let e = and_parts (four x) (list_all four xs) l in
    (means x a.0 b.0 c.0 e.0, four_pass P one two three four means xs a.1 b.1 c.1 e.1)

module _ (p : GiottoProgram) (kept : KeepsRules p) where
  -- tasks

  output_declared : (x : Name) → is_among (output_names p) x ≡ true → is_among (declared_names p) x ≡ true
  output_declared x h = among_second (sensor_names p) _ x (among_second (actuator_names p) _ x (among_first (output_names p) (task_names p ++ mode_names p) x h))

  task_fits : (t : TaskDeclaration) → is_small (body_of t) ≡ true → are_among (output_names p) t.outputs ≡ true
      → declares_own (declared_names p) (body_of t) ≡ true → uses_own_ports (body_of t) ≡ true → TaskFits p t
  task_fits t few outputs own uses =
      let mine = t.inputs ++ names_of t.states in
      let apart = and_parts _ _ own in
      let names = and_parts _ _ apart.1 in
      let away = apart_from (declared_names p) mine t.outputs names.1 (weaker_all (output_names p) (declared_names p) output_declared t.outputs outputs) in
      let different : all_different (mine ++ t.outputs) ≡ true = different_joined mine t.outputs names.0 apart.0 away in
      let parts = and_parts _ _ uses in
      let reads = subst (λ ns. block_reads_only (is_among ns) t.block ≡ true) (sym (append_assoc t.inputs (names_of t.states) t.outputs)) parts.0 in
      let turned : ◌≡◌ {A = Name → Bool} (is_among (t.outputs ++ names_of t.states)) (is_among (names_of t.states ++ t.outputs)) = λ k x. among_turned t.outputs (names_of t.states) x k in
      let assigns = subst (λ (may : Name → Bool). block_assigns_only may t.block ≡ true) turned parts.1 in
      record { outputs = outputs; sound = and_from _ _ few (and_from _ _ different (and_from _ _ reads assigns)) }

  tasks_fit : list_all (λ t. is_small (body_of t)) p.tasks ≡ true → AllByRecursion (TaskFits p) p.tasks
  tasks_fit small =
      let few = passed (λ t. is_small (body_of t)) p.tasks small in
      let outputs = passed _ p.tasks (and_parts _ _ (rule_kept p kept 2 uses_right_kinds refl)).0 in
      let own = passed _ p.tasks (and_parts _ _ (and_parts _ _ (rule_kept p kept 1 declares_once refl)).0).1 in
      let uses = passed _ p.tasks (rule_kept p kept 3 bodies_use_own_ports refl) in
      all_with _ _ (TaskFits p) (λ t a b. task_fits t a.0 a.1 b.0 b.1) p.tasks (all_zip _ _ p.tasks few outputs) (all_zip _ _ p.tasks own uses)

  -- a mode's ports are outputs

  task_outputs : (x : Name) → are_among (output_names p) (outputs_of_task p x) ≡ true
  task_outputs x = by (task_named p x) refl
    where
      by : (o : Option TaskDeclaration) → task_named p x ≡ o → are_among (output_names p) (outputs_of_task p x) ≡ true
      by None e = rw e refl
      by (Some t) e = rw e (found_passes (task_uses (kinds_of p)) (λ (t : TaskDeclaration). same_name t.name x) p.tasks t (and_parts _ _ (rule_kept p kept 2 uses_right_kinds refl)).0 e)

  ports_are_outputs : (is : List TaskInvocation) → are_among (output_names p) (flat_map (λ (i : TaskInvocation). outputs_of_task p i.task) is) ≡ true
  ports_are_outputs [] = refl
  ports_are_outputs (i ∷ is) =
      list_all-append (is_among (output_names p)) (outputs_of_task p i.task) _ ∙ and_from _ _ (task_outputs i.task) (ports_are_outputs is)

  -- modes

  switch_of : (m : ModeDeclaration) (s : ModeSwitch) → 1 ≤ m.period → divides s.frequency m.period ≡ true → switch_uses (kinds_of p) s ≡ true
      → switch_fits p (readable_ports p m) s ≡ true → is_shallow_switch s ≡ true → SwitchFits p m s
  switch_of m s positive h k d shallow =
      let uses = and_parts _ _ (and_parts _ _ k).0 in
      let fits = and_parts _ _ d in
      let parts = and_parts _ _ fits.0 in
      record {
        frequency = frequency_of m s.frequency positive h;
        target = target_fits p (destinations_of s) (mode_named p s.target) (found_some (λ (m : ModeDeclaration). m.name) p.modes s.target uses.0) parts.1;
        destinations_once = fits.1;
        reads = parts.0;
        shallow = shallow;
      }

  mode_fits : (m : ModeDeclaration) → frequencies_divide_in m ≡ true → mode_uses (kinds_of p) m ≡ true → drivers_fit p m ≡ true
      → list_all (argument_for_each_input p) m.invocations ≡ true → all_different (invoked_tasks m) ≡ true → all_different (updated_actuators m) ≡ true
      → all_different (mode_ports p m) ≡ true → is_shallow_mode m ≡ true → ModeFits p m
  mode_fits m times uses drivers arguments tasks_once actuators_once ports_once shallow =
      let third = and_parts _ _ times in
      let second = and_parts _ _ third.0 in
      let first = and_parts _ _ second.0 in
      let period = and_parts _ _ first.0 in
      let positive : 1 ≤ m.period = leb-true _ _ period.0 in
      let of_kind = and_parts _ _ (and_parts _ _ uses).0 in
      let reads = and_parts _ _ drivers in
      let earlier = and_parts _ _ reads.0 in
      let depths = and_parts (list_all is_shallow_update m.updates) _ shallow in
      let later = and_parts (list_all is_shallow_switch m.switches) (list_all is_shallow_invocation m.invocations) depths.1 in
      record {
        positive = positive;
        short = leb-true _ _ period.1;
        tasks_once = tasks_once;
        actuators_once = actuators_once;
        ports_once = ports_once;
        ports_are_outputs = ports_are_outputs m.invocations;
        updates = four_pass (UpdateFits p m) _ _ _ is_shallow_update (λ u h k d s. record {
          frequency = frequency_of m u.frequency positive h;
          actuator = (and_parts _ _ k).0;
          reads = d;
          shallow = s;
        }) m.updates first.1 of_kind.0 earlier.0 depths.0;
        switches = four_pass (SwitchFits p m) _ _ _ is_shallow_switch (λ s h k d low. switch_of m s positive h k d low) m.switches second.1 of_kind.1 earlier.1 later.0;
        invocations = four_pass (InvocationFits p m) _ _ _ is_shallow_invocation (λ i h k d s. record {
          frequency = frequency_of m i.frequency positive h;
          task = arguments_for i (task_named p i.task) k;
          reads = d;
          shallow = s;
        }) m.invocations third.1 arguments reads.1 later.1;
      }

  modes_fit : list_all is_shallow_mode p.modes ≡ true → AllByRecursion (ModeFits p) p.modes
  modes_fit shallow =
      let times = passed _ p.modes (rule_kept p kept 4 frequencies_divide refl) in
      let uses = passed _ p.modes (and_parts _ _ (rule_kept p kept 2 uses_right_kinds refl)).1 in
      let drivers = passed _ p.modes (rule_kept p kept 9 drivers_read_mode_ports refl) in
      let arguments = passed _ p.modes (rule_kept p kept 8 arguments_fit refl) in
      let tasks = passed _ p.modes (rule_kept p kept 5 invokes_once refl) in
      let actuators = passed _ p.modes (rule_kept p kept 7 updates_once refl) in
      let ports = passed _ p.modes (rule_kept p kept 6 tasks_share_no_output refl) in
      let depths = passed is_shallow_mode p.modes shallow in
      all_with _ _ (ModeFits p) (λ m a b. mode_fits m a.0.0 a.0.1 a.1.0 a.1.1 b.0.0 b.0.1 b.1.0 b.1.1) p.modes
      (all_zip _ _ p.modes (all_zip _ _ p.modes times uses) (all_zip _ _ p.modes drivers arguments))
      (all_zip _ _ p.modes (all_zip _ _ p.modes tasks actuators) (all_zip _ _ p.modes ports depths))

  -- A well-formed program that can be printed.
  pub program_fits : IsPrintable p → is_shallow_program p ≡ true → ProgramFits p
  program_fits printable shallow =
      let declared = and_parts _ _ (rule_kept p kept 1 declares_once refl) in
      let once = and_parts _ _ declared.0 in
      record {
        declared_once = once.0;
        lines_once = declared.1;
        ports_once = ports_different p (names_have_no_dots p printable) once.0 once.1;
        tasks = tasks_fit (small_if_printable p printable);
        modes = modes_fit (and_parts (list_all is_shallow_task p.tasks) (list_all is_shallow_mode p.modes) shallow).1;
        start = found_some (λ (m : ModeDeclaration). m.name) p.modes p.start (rule_kept p kept 11 starts_in_a_mode refl);
      }

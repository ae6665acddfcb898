-- The active tasks that a mode invokes: those that it releases, those that a switch leaves active, and none at mode time 0.
use Rattle.std.proofs.Common.{◌≡◌, ℕ, ◌/◌, ◌%◌, ◌==◌, Bool, true, false, cond, ◌&&◌, ℤ, List, [], ◌∷◌, ◌++◌, map, filter, Option, Some, None, refl, sym, ap, subst, ◌∙◌, arith}
use Rattle.std.specs.Prelude.{is_some, IsSome, slice_get}
use Rattle.std.specs.List.{find, flat_map, list_all, AllByRecursion}
use Rattle.std.proofs.lemmas.Bool.{and_parts, and_from, or_from, or_left, or_right, false≢true, false_from_ne_true}
use Rattle.std.proofs.lemmas.Nat.Gcd.{dvd_trans}
use Rattle.giotto_tasks.specs.declared.names.Name.{Name}
use Rattle.giotto_tasks.specs.Names.{Valuation, same_name, is_among}
use Rattle.giotto_tasks.specs.Syntax.{TaskBody}
use Rattle.giotto_tasks.proofs.cited.ListLemmas.{all_append, all_if_any, all_map, all_mapped, all_of, all_with, any_map, find_is_any, find_passes, found_has, found_passes, some_same}
use Rattle.giotto_tasks.proofs.cited.NameLemmas.{any_is_among, same_name_is, same_name_self}
use Rattle.giotto_tasks.proofs.cited.TestLemmas.{either}
use Rattle.rig_model.specs.text.Program.{TaskDeclaration, ModeSwitch, TaskInvocation, ModeDeclaration, GiottoProgram}
use Rattle.rig_model.specs.rules.Declarations.{invoked_tasks, mode_named, period_of_task}
use Rattle.rig_model.specs.rules.cited.KeepsRules.{KeepsRules}
use Rattle.rig_model.specs.rules.Rules.{switches_keep_periods}
use Rattle.rig_model.specs.rules.Switches.{goes_on_with, is_period, keeps_period, mode_keeps_periods, switch_keeps_periods}
use Rattle.rig_model.proofs.of_rules.RulesKept.{rule_kept}
use Rattle.tenant_slots.specs.well_formed.cited.Facts.{ProgramFits}
use Rattle.rig_model.specs.grants.Grants.{GrantRows}
use Rattle.rig_model.specs.Due.{is_due_at}
use Rattle.tenant_slots.specs.Places.{name_of_mode}
use Rattle.rig_model.specs.Switches.{is_open, switch_taken}
use Rattle.tenant_slots.proofs.cited.CommonMultiples.{divides, is_divided}
use Rattle.tenant_slots.proofs.cited.Numbered.{mode_here}
use Rattle.tenant_state.specs.declared.tenants.Active.{Active}
use Rattle.tenant_state.specs.declared.tenants.waiting.Waiting.{Waiting}
use Rattle.tenant_state.specs.declared.tenants.switches.Entry.{Entry}
use Rattle.rig_model.specs.FirstHalf.{due_tasks}
use Rattle.rig_model.specs.Row.{ActiveTask, Row}
use Rattle.rig_model.specs.SecondHalf.{all_released}
use Rattle.tenant_state.specs.Standing.{Standing}
use Rattle.tenant_state.specs.Tenants.{active_of}
use Rattle.tenant_state.specs.inner.Invoked.{IsInvokedIn}
use Rattle.tenant_state.specs.inner.Tenants.{AreInvoked, IsEntered}
use Rattle.tenant_state.proofs.DueTasks.{ends, group}
use Rattle.rig_model.specs.trace.Trace.{LastRecords}
use Rattle.tenant_state.proofs.EndedTasks.{IsRunning, all_unmapped}
use Rattle.tenant_state.proofs.FirstHalfOf.{Runs, due_are}
use Rattle.tenant_state.proofs.HalfStands.{released_by}
use Rattle.tenant_state.proofs.TenantFacts.{none_stand}

-- an invocation of the task of this name
abbrev is_of : Name → TaskInvocation → Bool
is_of x i = same_name i.task x

-- a mode invokes a task if one of its invocations is of the task
period_if_found : (m : ModeDeclaration) (x : Name) → is_some (period_of_task m x) ≡ is_some (find (is_of x) m.invocations)
period_if_found m x = by (find (is_of x) m.invocations) refl
  where
    by : (o : Option TaskInvocation) → find (is_of x) m.invocations ≡ o → is_some (period_of_task m x) ≡ is_some (find (is_of x) m.invocations)
    by None e = rw e refl
    by (Some i) e = rw e refl

its_invocation : (m : ModeDeclaration) (x : Name) → IsSome (period_of_task m x) → (i : TaskInvocation) × (find (is_of x) m.invocations ≡ Some i)
its_invocation m x some = by (find (is_of x) m.invocations) refl
  where
    by : (o : Option TaskInvocation) → find (is_of x) m.invocations ≡ o → (i : TaskInvocation) × (find (is_of x) m.invocations ≡ Some i)
    by None e = absurd (false≢true (sym (period_if_found m x ∙ ap is_some e) ∙ some))
    by (Some i) e = (i, e)

among_invoked : (m : ModeDeclaration) (x : Name) → is_among (invoked_tasks m) x ≡ true → IsSome (period_of_task m x)
among_invoked m x there =
    period_if_found m x ∙ find_is_any (is_of x) m.invocations ∙ sym (any_map (λ y. same_name y x) (λ (i : TaskInvocation). i.task) m.invocations) ∙ any_is_among (invoked_tasks m) x ∙ there

-- the tasks that a mode's invocations release are tasks that it invokes

abbrev names_of : List TaskInvocation → List Name
names_of is = map (λ (i : TaskInvocation). i.task) is

released_among : (p : GiottoProgram) (m : ModeDeclaration) (time n : ℕ) (is : List TaskInvocation) (ports : Valuation) → AllByRecursion (λ (a : ActiveTask). is_among (names_of is) a.task ≡ true) (all_released p m time n is ports)
released_among p m time n =
    released_by p m time n (λ is new. AllByRecursion (λ (a : ActiveTask). is_among (names_of is) a.task ≡ true) new) tt
    wider
    (λ i is later ports t due e all.
    let same : t.name ≡ i.task = same_name_is t.name i.task (find_passes (λ (t : TaskDeclaration). same_name t.name i.task) p.tasks t e) in
    (or_left _ _ (subst (λ y. same_name i.task y ≡ true) (sym same) (same_name_self i.task)), wider i is later all))
  where
    wider : (i : TaskInvocation) (is : List TaskInvocation) (later : List ActiveTask) → AllByRecursion (λ (a : ActiveTask). is_among (names_of is) a.task ≡ true) later
        → AllByRecursion (λ (a : ActiveTask). is_among (names_of (i ∷ is)) a.task ≡ true) later
    wider i is later all = all_map _ _ later (λ a h. or_right (same_name i.task a.task) _ h) all

pub invoked_behind : (p : GiottoProgram) (m : ModeDeclaration) (time n : ℕ) (ports : Valuation) (old new : List Active) (values : List ℤ) → AreInvoked p m time n ports old new values
    → AllByRecursion (IsInvokedIn p m) old → AllByRecursion (IsInvokedIn p m) new
invoked_behind p m time n ports old new values ran all =
    let Its : ActiveTask → Type 0 = λ a. IsSome (period_of_task m a.task) in
    let news : List ActiveTask = all_released p m time n m.invocations ports in
    let released = all_map (λ (a : ActiveTask). is_among (invoked_tasks m) a.task ≡ true) Its news (λ a h. among_invoked m a.task h) (released_among p m time n m.invocations ports) in
    all_unmapped Its (active_of p) new (subst (AllByRecursion Its) (sym ran.tasks) (all_append Its (map (active_of p) old) news (all_mapped Its (active_of p) old all) released))

-- if no task is due

-- the invocation of this task isn't due
abbrev pub IsWaiting : ModeDeclaration → ℕ → Name → Type 0
IsWaiting m time x = (i : TaskInvocation) → find (is_of x) m.invocations ≡ Some i → is_due_at time m i.frequency ≡ false

none_kept : {X : Type 0} (test : X → Bool) (xs : List X) → filter test xs ≡ [] → AllByRecursion (λ x. test x ≡ false) xs
none_kept test [] e = tt
none_kept test (x ∷ xs) e = by (test x) refl e (none_kept test xs)
  where
    by : (b : Bool) → test x ≡ b → cond b (x ∷ filter test xs) (filter test xs) ≡ [] → (filter test xs ≡ [] → AllByRecursion (λ x. test x ≡ false) xs) → (test x ≡ false) × AllByRecursion (λ x. test x ≡ false) xs
    by true is e rest = absurd (cc)
    by false is e rest = (is, rest e)

module _ (m : ModeDeclaration) (time : ℕ) where
  none_ends : (active : List ActiveTask) (is : List TaskInvocation) → flat_map (group m time active) is ≡ [] → AllByRecursion (λ (a : ActiveTask). ends m time active is a.task ≡ false) active
  none_ends active [] none = all_of (λ a. refl) active
  none_ends active (i ∷ is) none =
      let parts = both_empty (group m time active i) (flat_map (group m time active) is) none in
      all_with (λ (a : ActiveTask). (same_name a.task i.task && is_due_at time m i.frequency) ≡ false) (λ (a : ActiveTask). ends m time active is a.task ≡ false) (λ (a : ActiveTask). ends m time active (i ∷ is) a.task ≡ false)
      (λ a h k. or_from _ _ h k) active (none_kept _ active parts.0) (none_ends active is parts.1)
    where
      both_empty : (xs ys : List ActiveTask) → xs ++ ys ≡ [] → (xs ≡ []) × (ys ≡ [])
      both_empty [] ys e = (refl, e)
      both_empty (x ∷ xs) ys e = absurd (cc)

  waits : (active : List ActiveTask) (x : Name) → ends m time active m.invocations x ≡ false → IsWaiting m time x
  waits active x none i found =
      let fails =
      found_has (λ (j : TaskInvocation). (same_name x j.task && is_due_at time m j.frequency) ≡ true → ⊥) (is_of x) m.invocations i
      (all_if_any (λ (j : TaskInvocation). same_name x j.task && is_due_at time m j.frequency) ⊥ m.invocations (λ e. false≢true (sym none ∙ e))) found in
      let same : i.task ≡ x = same_name_is i.task x (find_passes (is_of x) m.invocations i found) in
      false_from_ne_true _ (λ due. fails (and_from _ _ (subst (λ y. same_name x y ≡ true) (sym same) (same_name_self x)) due))

  pub all_wait : (active : List ActiveTask) → flat_map (group m time active) m.invocations ≡ [] → AllByRecursion (λ (a : ActiveTask). IsWaiting m time a.task) active
  all_wait active none = all_map _ _ active (λ a e. waits active a.task e) (none_ends active m.invocations none)

-- At mode time 0 each task that the mode invokes is due.
none_of_mode : (m : ModeDeclaration) (active : List ActiveTask) → AllByRecursion (λ (a : ActiveTask). IsSome (period_of_task m a.task)) active → AllByRecursion (λ (a : ActiveTask). IsWaiting m 0 a.task) active → active ≡ []
none_of_mode m [] its waiting = refl
none_of_mode m (a ∷ active) its waiting =
    let found = its_invocation m a.task its.0 in
    let none : is_due_at 0 m found.0.frequency ≡ false = waiting.0 found.0 found.1 in
    absurd (false≢true (sym none ∙ zero_due (m.period / found.0.frequency)))
  where
    zero_due : (k : ℕ) → (0 % k == 0) ≡ true
    zero_due k = grind arith

-- a row that runs in this mode, with no task due
module _ (row : Row) (p : GiottoProgram) (m : ModeDeclaration) (runs : Runs row p m) (none : due_tasks row ≡ []) where
  pub each_waits : AllByRecursion (λ (a : ActiveTask). IsWaiting m row.mode_time a.task) row.active
  each_waits = all_wait m row.mode_time row.active (sym (due_are row p m runs (λ a. true)) ∙ none)

  -- at mode time 0 no task is active, if the mode invokes each active task
  pub none_at_zero : row.mode_time ≡ 0 → AllByRecursion (λ (a : ActiveTask). IsSome (period_of_task m a.task)) row.active → row.active ≡ []
  none_at_zero begins its = none_of_mode m row.active its (subst (λ t. AllByRecursion (λ (a : ActiveTask). IsWaiting m t a.task) row.active) begins each_waits)

-- a running tenant with no task due
module _ {tenant : Standing} {grants : GrantRows} {p : GiottoProgram} {mode time next : ℕ} {active ended : List Active} {values : List ℤ} {shares : List (Option TaskBody)} {waiting : Option Waiting} {trace : LastRecords} {next_tick : ℕ}
    (is : IsRunning tenant grants p mode time next active ended values shares waiting trace next_tick) (fits : ProgramFits p) (none : due_tasks tenant.row ≡ []) where
  its_runs : (m : ModeDeclaration) → slice_get p.modes mode ≡ Some m → Runs tenant.row p m
  its_runs m at = record {
    state = ap (λ (r : Row). r.state) is.row;
    program = ap (λ (r : Row). r.program) is.row;
    mode = ap (λ (r : Row). mode_named p r.mode) is.row ∙ mode_here p fits mode m at;
  }

  pub tasks_wait : (m : ModeDeclaration) → slice_get p.modes mode ≡ Some m → AllByRecursion (λ (a : ActiveTask). IsWaiting m time a.task) (map (active_of p) active)
  tasks_wait m at = subst (λ (r : Row). AllByRecursion (λ (a : ActiveTask). IsWaiting m r.mode_time a.task) r.active) is.row (each_waits tenant.row p m (its_runs m at) none)

  -- at mode time 0 it has no active task
  pub no_task_left : time ≡ 0 → active ≡ []
  no_task_left begins =
      let m = is.its in
      let here = ap (λ (r : Row). r.active) is.row in
      let its = all_mapped (λ (a : ActiveTask). IsSome (period_of_task m a.task)) (active_of p) active (is.fits.invoked m is.there) in
      none_stand p active (sym here ∙ none_at_zero tenant.row p m (its_runs m is.there) none (ap (λ (r : Row). r.mode_time) is.row ∙ begins) (subst (AllByRecursion (λ (a : ActiveTask). IsSome (period_of_task m a.task))) (sym here) its))

-- a switch of a mode that is taken
module _ (p : GiottoProgram) (keeps : KeepsRules p) (fits : ProgramFits p) (m : ModeDeclaration) (mode : ℕ) (at : slice_get p.modes mode ≡ Some m) (time : ℕ) (ports : Valuation) (s : ModeSwitch) (taken : switch_taken m time ports ≡ Some s)
    (t : ModeDeclaration) (named : mode_named p s.target ≡ Some t) where
  each_kept : list_all (keeps_period p m.period s) m.invocations ≡ true
  each_kept =
      let all : list_all (mode_keeps_periods p) p.modes ≡ true = rule_kept p keeps 10 switches_keep_periods refl in
      let its = found_passes (mode_keeps_periods p) (λ (n : ModeDeclaration). same_name n.name (name_of_mode p mode)) p.modes m all (mode_here p fits mode m at) in
      found_passes (switch_keeps_periods p m) (is_open m time ports) m.switches s its taken

  -- a task that isn't due goes on in the target
  goes_on : (x : Name) → IsSome (period_of_task m x) → IsWaiting m time x → IsSome (period_of_task t x)
  goes_on x some waiting =
      let found = its_invocation m x some in
      let i = found.0 in
      let same : i.task ≡ x = same_name_is i.task x (find_passes (is_of x) m.invocations i found.1) in
      let due : (time % (m.period / s.frequency) == 0) ≡ true = (and_parts _ _ (find_passes (is_open m time ports) m.switches s taken)).0 in
      let every = m.period / i.frequency in
      either ((m.period / s.frequency) % every == 0) (goes_on_with (mode_named p s.target) i.task every) (IsSome (period_of_task t x))
      (found_passes (keeps_period p m.period s) (is_of x) m.invocations i each_kept found.1)
      (λ e. absurd (false≢true (sym (waiting i found.1) ∙ is_divided every time (dvd_trans every (divides every (m.period / s.frequency) e) (divides (m.period / s.frequency) time due)))))
      (λ e. subst (λ y. IsSome (period_of_task t y)) same (has_one (period_of_task t i.task) every (sym (ap (λ o. goes_on_with o i.task every) named) ∙ e)))
    where
      has_one : (o : Option ℕ) (k : ℕ) → is_period o k ≡ true → IsSome o
      has_one None k e = absurd (false≢true e)
      has_one (Some n) k e = refl

-- the mode that a switch enters invokes each task that is still active
pub entered_invokes : (p : GiottoProgram) (keeps : KeepsRules p) (fits : ProgramFits p) (m : ModeDeclaration) (mode : ℕ) (at : slice_get p.modes mode ≡ Some m) (time : ℕ) (old : List Active) (tasks : List ActiveTask) (ports : Valuation)
    (entry : Entry) (values : List ℤ) → IsEntered p m time tasks ports entry values → (to : ℕ) (o : ModeDeclaration) → to ≡ entry.mode → slice_get p.modes to ≡ Some o
    → AllByRecursion (IsInvokedIn p m) old → AllByRecursion (λ (a : ActiveTask). IsWaiting m time a.task) (map (active_of p) old) → AllByRecursion (IsInvokedIn p o) old
entered_invokes p keeps fits m mode at time old tasks ports entry values is to o same there all waiting =
    let target : is.target ≡ o = some_same is.target o (sym is.there ∙ ap (slice_get p.modes) (sym same) ∙ there) in
    let named : mode_named p is.switch.target ≡ Some o = is.named ∙ ap Some target in
    all_with (IsInvokedIn p m) (λ a. IsWaiting m time (active_of p a).task) (IsInvokedIn p o)
    (λ a some waits. goes_on p keeps fits m mode at time ports is.switch is.taken o named (active_of p a).task some waits) old all (all_unmapped _ (active_of p) old waiting)

-- Shares of tasks' bodies, and the most tasks that an instant can release.
use Rattle.std.proofs.Common.{◌≡◌, ℕ, zero, suc, ◌+◌, ◌<◌, Bool, true, false, cond, ℤ, List, [], ◌∷◌, length, max, map, filter, take, set, get_or, ⊎_elim, Option, Some, None, refl, sym, ap, subst, ◌∙◌, arith}
use Rattle.std.specs.Prelude.{is_some, slice_get}
use Rattle.std.specs.Arc.{arc_value}
use Rattle.std.specs.List.{list_all}
use Rattle.std.specs.Option.{option_map, option_map_or}
use Rattle.std.proofs.lemmas.Bool.{and_from, false≢true}
use Rattle.std.proofs.lemmas.List.{take_more_set}
use Rattle.std.proofs.lemmas.List.Folds.{list_all-append, list_all-map}
use Rattle.std.proofs.lemmas.Option.{slice_get-map, slice_get-get_or, slice_get_cases}
use Rattle.giotto_tasks.specs.declared.names.Name.{Name}
use Rattle.giotto_tasks.specs.Names.{same_name}
use Rattle.giotto_tasks.specs.Syntax.{TaskBody}
use Rattle.rig_model.specs.declared.text.programs.Task.{Task}
use Rattle.rig_model.specs.text.Program.{TaskDeclaration, ModeSwitch, TaskInvocation, ModeDeclaration, GiottoProgram, body_of}
use Rattle.rig_model.specs.text.ProgramTrees as trees
use Rattle.giotto_tasks.proofs.cited.ListLemmas.{all_same, some_same, is_some-option_map}
use Rattle.rig_model.specs.rules.Declarations.{mode_named}
use Rattle.rig_model.specs.rules.Costs.{greatest}
use Rattle.tenant_slots.specs.well_formed.cited.Timetables.{AreEach, IsInvocation, place_of_mode}
use Rattle.tenant_slots.specs.well_formed.cited.Facts.{ProgramFits}
use Rattle.giotto_check.specs.declared.timetables.SlotInvocation.{SlotInvocation}
use Rattle.tenant_slots.proofs.of_well_formed.EachLemmas.{each_long}
use Rattle.tenant_slots.proofs.of_well_formed.PlaceLemmas.{found_there, place_if_found}
use Rattle.rig_model.specs.Due.{is_due_at}
use Rattle.tenant_slots.proofs.cited.Numbered.{mode_here}
use Rattle.tenant_state.proofs.DueTasks.{none_passes}
use Rattle.tenant_state.proofs.GreatestOf.{greatest_more}
use Rattle.tenant_state.proofs.TenantFacts.{body_of_task}
use Rattle.rig_model.specs.trace.Trace.{LastRecords}
use Rattle.tenant_state.specs.cited.Standing.{IsSettled}
use Rattle.rig_model.specs.Row.{Row}
use Rattle.rig_model.specs.grants.Grants.{GrantRows}
use Rattle.rig_model.specs.config.Roster.{no_budgets}
use Rattle.tenant_state.specs.declared.tenants.Active.{Active}
use Rattle.tenant_state.specs.declared.tenants.waiting.Waiting.{Waiting}
use Rattle.tenant_state.specs.declared.tenants.State as code
use Rattle.tenant_state.specs.declared.tenants.State.TheVariants.{Running}
use Rattle.tenant_state.specs.Standing.{invoked_in, most_at, most_released, most_in_mode}
use Rattle.tenant_state.specs.Tenants.{standing_of, state_of}
use Rattle.tenant_state.specs.inner.Tenants.{IsShareOf, FitsProgram, FitsIts, IsTenant}

-- the declaration at a place is that of the task there
pub task_at : (tasks : List Task) (declared : List TaskDeclaration) (k : ℕ) (t : Task) → map trees.task_of tasks ≡ declared → k < length tasks → slice_get declared k ≡ Some (trees.task_of (get_or tasks k t))
task_at tasks declared k t same lt = ap (λ ts. slice_get ts k) (sym same) ∙ slice_get-map trees.task_of tasks k ∙ ap (option_map trees.task_of) (slice_get-get_or tasks k t lt)

-- a share at a place may be replaced by one of the same task
pub share_set : {S : Type 0} (f : S → Option TaskBody) (tasks : List TaskDeclaration) (shares : List S) (k : ℕ) (s : S)
    → ((t : TaskDeclaration) → slice_get tasks k ≡ Some t → IsShareOf t (f s)) → AreEach IsShareOf tasks (map f shares) → AreEach IsShareOf tasks (map f (set shares k s))
share_set f [] [] k s is all = all
share_set f [] (x ∷ shares) k s is all = absurd all
share_set f (t ∷ tasks) [] k s is all = absurd all
share_set f (t ∷ tasks) (x ∷ shares) zero s is all = (is t refl, all.1)
share_set f (t ∷ tasks) (x ∷ shares) (suc k) s is all = (all.0, share_set f tasks shares k s is all.1)

-- one more share is made, after those that are available
pub share_made : {A : Type 0} (v : A → TaskBody) (tasks : List Task) (shares new : List (Option A)) (k : ℕ) (t : Task) (share : A) → k < length shares → k < length tasks
    → v share ≡ arc_value (get_or tasks k t).body → new ≡ set shares k (Some share) → AreEach IsShareOf (map trees.task_of tasks) (map (option_map v) shares) → list_all is_some (take k shares) ≡ true
    → AreEach IsShareOf (map trees.task_of tasks) (map (option_map v) new) × (list_all is_some (take (k + 1) new) ≡ true)
share_made v tasks shares new k t share lt within same e each all = rw e (
  share_set (option_map v) (map trees.task_of tasks) shares k (Some share) is each,
  ap (list_all is_some) (take_more_set shares k (Some share) lt) ∙ list_all-append is_some (take k shares) (Some share ∷ []) ∙ and_from _ _ all refl,
)
  where
    is : (d : TaskDeclaration) → slice_get (map trees.task_of tasks) k ≡ Some d → v share ≡ body_of d
    is d at = same ∙ sym (body_of_task (get_or tasks k t)) ∙ ap body_of (some_same _ d (sym (task_at tasks _ k t refl within) ∙ at))

pub shared_map : {X Y : Type 0} (f : X → Y) (os : List (Option X)) → list_all is_some (map (option_map f) os) ≡ list_all is_some os
shared_map f os = list_all-map is_some (option_map f) os ∙ all_same (λ o. is_some (option_map f o)) is_some (is_some-option_map f) os

-- as many lines of a mode are due as entries of its timetable
pub due_each : {L E : Type 0} (R : L → E → Type 0) (due : L → Bool) (test : E → Bool) → ((x : L) (e : E) → R x e → test e ≡ due x) → (xs : List L) (es : List E) → AreEach R xs es
    → length (filter test es) ≡ length (filter due xs)
due_each R due test same [] [] each = refl
due_each R due test same [] (e ∷ es) each = absurd each
due_each R due test same (x ∷ xs) [] each = absurd each
due_each R due test same (x ∷ xs) (e ∷ es) each = ap (λ b. length (cond b (e ∷ filter test es) (filter test es))) (same x e each.0) ∙ by (due x) (due_each R due test same xs es each.1)
  where
    by : (b : Bool) → length (filter test es) ≡ length (filter due xs) → length (cond b (e ∷ filter test es) (filter test es)) ≡ length (cond b (x ∷ filter due xs) (filter due xs))
    by true rest = ap suc rest
    by false rest = rest

-- the mode of a name invokes as many tasks as there are entries at its place
pub invoked_there : (p : GiottoProgram) (x : Name) (k : ℕ) (es : List SlotInvocation) → place_of_mode p x ≡ Some k → ((m : ModeDeclaration) → slice_get p.modes k ≡ Some m → AreEach (IsInvocation p m) m.invocations es)
    → length es ≡ invoked_in p x
invoked_there p x k es place there = by (mode_named p x) refl (place_if_found is_named 0 p.modes)
  where
    is_named : ModeDeclaration → Bool
    is_named m = same_name m.name x

    by : (o : Option ModeDeclaration) → mode_named p x ≡ o → is_some (place_of_mode p x) ≡ is_some o → length es ≡ option_map_or (λ (m : ModeDeclaration). length m.invocations) o 0
    by None found same = absurd (false≢true (sym same ∙ ap is_some place))
    by (Some m) found same =
        let at = found_there is_named 0 p.modes k m place found in
        let here : k ≡ at.0 = omega (arith, at.1) in
        sym (each_long (IsInvocation p m) m.invocations es (there m (ap (slice_get p.modes) here ∙ at.2)))

-- the switches of these that are due
abbrev switches_due : ModeDeclaration → ℕ → List ModeSwitch → List ModeSwitch
switches_due m time ss = filter (λ (s : ModeSwitch). is_due_at time m s.frequency) ss

-- the most tasks that one of their targets invokes
abbrev most_invoked : GiottoProgram → List ModeSwitch → ℕ
most_invoked p ss = greatest (map (λ (s : ModeSwitch). invoked_in p s.target) ss)

-- the most tasks of a mode that one of these switches enters, if it is due
abbrev pub most_entered : GiottoProgram → ModeDeclaration → ℕ → List ModeSwitch → ℕ
most_entered p m time ss = most_invoked p (switches_due m time ss)

-- the first of the switches that are left
module _ (p : GiottoProgram) (m : ModeDeclaration) (time most : ℕ) (s : ModeSwitch) (ss rest : List ModeSwitch) (here : ss ≡ s ∷ rest) where
  entered_by : (due : Bool) → is_due_at time m s.frequency ≡ due → most_entered p m time ss ≡ most_invoked p (cond due (s ∷ switches_due m time rest) (switches_due m time rest))
  entered_by due e = ap (most_entered p m time) here ∙ ap (λ b. most_invoked p (cond b (s ∷ switches_due m time rest) (switches_due m time rest))) e

  pub enters : (n new : ℕ) → is_due_at time m s.frequency ≡ true → n ≡ invoked_in p s.target → new ≡ max most n → max new (most_entered p m time rest) ≡ max most (most_entered p m time ss)
  enters n new due long greater = omega (arith, entered_by true due, long, greater, greatest_more (invoked_in p s.target) (map (λ (s : ModeSwitch). invoked_in p s.target) (switches_due m time rest)))

  pub stays : is_due_at time m s.frequency ≡ false → max most (most_entered p m time rest) ≡ max most (most_entered p m time ss)
  stays due = ap (max most) (sym (entered_by false due))

-- how many tasks a running tenant's next instant can release
module _ (grants : GrantRows) (waiting : Option Waiting) (trace : LastRecords) (state : code.State) (program : Option GiottoProgram) (mode time next : ℕ) (active ended : List Active) (values : List ℤ) (shares : List (Option TaskBody)) (count places : ℕ) (p : GiottoProgram)
    (known : IsTenant (state_of state) program mode time next active ended values shares count) (runs : state ≡ Running) (has : program ≡ Some p) (fits : ProgramFits p) where
  its : FitsProgram p mode time next active ended values shares count
  its = subst (λ o. FitsIts o mode time next active ended values shares count) has known.fits

  abbrev its_row : Row
  its_row = (standing_of no_budgets grants state program mode time active ended places values shares waiting trace count).row

  pub most_due : IsSettled its_row → (n : ℕ) → ((m : ModeDeclaration) → slice_get p.modes mode ≡ Some m → n ≡ most_at p m time) → n ≡ most_released its_row
  most_due settled n counted =
      let stays = rw (runs, has) at settled in
      rw (runs, has) (⊎_elim
      (λ found. counted found.0 found.2 ∙ ap (λ o. option_map_or (λ (m : ModeDeclaration). most_at p m time) o 0) (sym (mode_here p fits mode found.0 found.2)))
      (λ past. absurd (omega (arith, past.0, its.mode_there))) (slice_get_cases p.modes mode).1 ∙ ap most_in_mode (sym (stays trace.records)))

  pub none_due : IsSettled its_row → time < next → 0 ≡ most_released its_row
  none_due settled lt = most_due settled 0 (λ m at.
      let quiet = its.quiet m at time (omega arith) lt in
      sym (ap (λ is. max (length is) (most_entered p m time m.switches)) (none_passes (λ (i : TaskInvocation). is_due_at time m i.frequency) m.invocations quiet.no_invocation)
      ∙ ap (λ ss. max 0 (most_invoked p ss)) (none_passes (λ (s : ModeSwitch). is_due_at time m s.frequency) m.switches quiet.no_switch)))

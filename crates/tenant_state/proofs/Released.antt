-- What a mode's invocations release, by the entries of its timetable.
use Rattle.std.proofs.Common.{◌≡◌, ℕ, ◌+◌, ◌<◌, ◌≤◌, Bool, true, false, cond, List, [], ◌∷◌, ◌++◌, map, filter, length, take, drop, get_or, Option, Some, None, ⊎_elim, refl, sym, ap, subst, ◌∙◌, arith}
use Rattle.std.specs.Prelude.{IsSomeAnd, slice_get}
use Rattle.std.specs.List.{AllByRecursion}
use Rattle.std.proofs.lemmas.Bool.{and_parts}
use Rattle.std.proofs.lemmas.List.{take-append-drop}
use Rattle.std.proofs.lemmas.Option.{slice_get_cases}
use Rattle.giotto_tasks.specs.Names.{Valuation}
use Rattle.rig_model.specs.text.Program.{TaskDeclaration, TaskInvocation, ModeDeclaration, GiottoProgram, body_of}
use Rattle.rig_model.specs.rules.Declarations.{task_named}
use Rattle.tenant_slots.specs.well_formed.cited.Facts.{InvocationFits, ProgramFits}
use Rattle.tenant_slots.specs.well_formed.cited.Timetables.{AreEach, IsExpression, IsInvocation}
use Rattle.giotto_check.specs.declared.timetables.SlotInvocation.{SlotInvocation}
use Rattle.giotto_tasks.proofs.cited.ListLemmas.{all_middle, stepped}
use Rattle.giotto_tasks.proofs.cited.SoundLemmas.{sound_small}
use Rattle.tenant_slots.proofs.of_well_formed.EachLemmas.{each_long}
use Rattle.rig_model.specs.Due.{is_due_at}
use Rattle.tenant_slots.proofs.cited.Numbered.{mode_fits_at, task_fits_at, task_of_place, invocation_interval}
use Rattle.tenant_slots.proofs.cited.Updates.{each_item}
use Rattle.tenant_state.specs.ActiveTasks.{TaskList}
use Rattle.rig_model.specs.SecondHalf.{is_invoked, released, with_inputs, all_invoked, all_released}
use Rattle.tenant_state.specs.Tenants.{active_of}
use Rattle.tenant_state.specs.declared.tenants.Active.{Active}

-- the invocation and the task that the entry at a place represents
pub record Entry (p : GiottoProgram) (m : ModeDeclaration) (k : ℕ) (e : SlotInvocation) : Type 0 where
  pub invocation : TaskInvocation
  pub task : TaskDeclaration
  pub here : drop k m.invocations ≡ invocation ∷ drop (k + 1) m.invocations
  pub is : IsInvocation p m invocation e
  pub positive : 0 < e.interval
  pub found : task_named p invocation.task ≡ Some task
  pub there : slice_get p.tasks e.task ≡ Some task
  pub arguments : length invocation.arguments ≡ length task.inputs
  pub few : length e.arguments.items ≤ 16

its_task : (o : Option TaskDeclaration) (n : ℕ) → IsSomeAnd o (λ t. n ≡ length t.inputs) → (t : TaskDeclaration) × (o ≡ Some t) × (n ≡ length t.inputs)
its_task None n h = absurd h
its_task (Some t) n h = (t, refl, h)

module _ (p : GiottoProgram) (fits : ProgramFits p) (mode k : ℕ) (es : List SlotInvocation) (e : SlotInvocation) (lt : k < length es) (is : e ≡ get_or es k e)
    (each : (m : ModeDeclaration) → slice_get p.modes mode ≡ Some m → AreEach (IsInvocation p m) m.invocations es) where
  pub its_entry : (m : ModeDeclaration) → slice_get p.modes mode ≡ Some m → Entry p m k e
  its_entry m at =
      let item = each_item (IsInvocation p m) m.invocations es k e (each m at) lt is in
      let parts = sym (take-append-drop k m.invocations) ∙ ap (λ l. take k m.invocations ++ l) item.1 in
      let fit = all_middle (InvocationFits p m) (take k m.invocations) item.0 (drop (k + 1) m.invocations) (subst (AllByRecursion (InvocationFits p m)) parts (mode_fits_at p fits mode m at).invocations) in
      let task = its_task (task_named p item.0.task) (length item.0.arguments) fit.task in
      let there = task_of_place p fits item.0.task e.task task.0 item.2.task task.1 in
      let small = sound_small (body_of task.0) (task_fits_at p fits e.task task.0 there).sound in
      let few : length e.arguments.items ≤ 16 = omega (arith, small.inputs, task.2, each_long (IsExpression p) item.0.arguments e.arguments.items item.2.arguments) in
      record { invocation = item.0; task = task.0; here = item.1; is = item.2; positive = invocation_interval p fits m item.0 e fit item.2; found = task.1; there = there; arguments = task.2; few = few }

  pub some_entry : (length p.modes ≤ mode → es ≡ []) → (m : ModeDeclaration) × (slice_get p.modes mode ≡ Some m) × Entry p m k e
  some_entry none = ⊎_elim
      (λ found. (found.0, found.2, its_entry found.0 found.2))
      (λ past. absurd (omega (arith, subst (λ l. k < length l) (none past.0) lt))) (slice_get_cases p.modes mode).1

abbrev due_of : ModeDeclaration → ℕ → List TaskInvocation → List TaskInvocation
due_of m time is = filter (λ (i : TaskInvocation). is_due_at time m i.frequency) is

-- with what the rest of a mode's invocations release and write, the tasks and ports so far are those after all invocations. There
-- is space for the rest.
pub record IsInvokedTo (p : GiottoProgram) (m : ModeDeclaration) (time n : ℕ) (old : List Active) (before : Valuation) (rest : List TaskInvocation) (active : TaskList) (now : Valuation) : Type 0 where
  pub tasks : map (active_of p) active.items ++ all_released p m time n rest now ≡ map (active_of p) old ++ all_released p m time n m.invocations before
  pub ports : all_invoked p m time rest now ≡ all_invoked p m time m.invocations before
  pub room : length (due_of m time rest) ≤ active.room

module _ {p : GiottoProgram} {m : ModeDeclaration} {time n : ℕ} {old : List Active} {before ports : Valuation} {active : TaskList} where
  pub left_as : {left rest : List TaskInvocation} → left ≡ rest → IsInvokedTo p m time n old before left active ports → IsInvokedTo p m time n old before rest active ports
  left_as same to = subst (λ is. IsInvokedTo p m time n old before is active ports) same to

module _ {p : GiottoProgram} {m : ModeDeclaration} {time n : ℕ} {old : List Active} {before ports : Valuation} {rest : List TaskInvocation} {i : TaskInvocation} {active : TaskList}
    (to : IsInvokedTo p m time n old before (i ∷ rest) active ports) where
  room_by : (due : Bool) → is_due_at time m i.frequency ≡ due → length (cond due (i ∷ due_of m time rest) (due_of m time rest)) ≤ active.room
  room_by due e = subst (λ b. length (cond b (i ∷ due_of m time rest) (due_of m time rest)) ≤ active.room) e to.room

  pub its_room : is_due_at time m i.frequency ≡ true → 0 < active.room
  its_room due = let more = room_by true due in omega (arith, more)

  pub waits : is_invoked m time i ports ≡ false → IsInvokedTo p m time n old before rest active ports
  waits h =
      let same : all_released p m time n (i ∷ rest) ports ≡ all_released p m time n rest ports = rw (h) refl in
      record {
        tasks = ap (λ r. map (active_of p) active.items ++ r) (sym same) ∙ to.tasks;
        ports = ap (all_invoked p m time rest) (rw (h) refl) ∙ to.ports;
        room = by (is_due_at time m i.frequency) refl;
      }
    where
      by : (due : Bool) → is_due_at time m i.frequency ≡ due → length (due_of m time rest) ≤ active.room
      by true e = let more = room_by true e in omega (arith, more)
      by false e = room_by false e

  pub happens : (t : TaskDeclaration) {after : Valuation} {new : TaskList} → is_invoked m time i ports ≡ true → task_named p i.task ≡ Some t → map (active_of p) new.items ≡ map (active_of p) active.items ++ released n i ports t ∷ []
      → after ≡ with_inputs i ports t → new.room + 1 ≡ active.room → IsInvokedTo p m time n old before rest new after
  happens t {after} {new} h found tasks written less =
      let first : all_released p m time n (i ∷ rest) ports ≡ released n i ports t ∷ all_released p m time n rest after = rw (h, found, written) refl in
      let more = room_by true (and_parts _ _ h).0 in
      record {
        tasks = stepped _ _ (released n i ports t ∷ []) _ _ tasks first ∙ to.tasks;
        ports = ap (all_invoked p m time rest) (rw (h, found, written) refl) ∙ to.ports;
        room = omega (arith, more, less);
      }

-- The first half in the code, by places and slots, and the first half of the row that the tenant represents.
use Rattle.std.proofs.Common.{take, ◌≡◌, ℕ, ◌<◌, ◌+◌, ◌%◌, ◌==◌, nat_eq, Bool, true, false, not, cond, ◌&&◌, ◌||◌, ⊎_elim, ℤ, List, [], ◌∷◌, ◌++◌, map, filter, length, drop, get_or, Option, Some, None, sym, refl, ap, subst, ◌∙◌, arith}
use Rattle.std.specs.Prelude.{IsSomeAnd, slice_get}
use Rattle.std.specs.List.{list_any, list_all, find, flat_map, AllByRecursion}
use Rattle.std.proofs.lemmas.Bool.{and_parts, and_from, eqb-true, eq-eqb, false≢true}
use Rattle.std.proofs.lemmas.List.Folds.{list_all-map}
use Rattle.std.proofs.lemmas.List.{drop_more, length-map}
use Rattle.std.proofs.lemmas.Option.{slice_get_cases}
use Rattle.rig_model.specs.rules.Declarations.{task_named, mode_named}
use Rattle.std.specs.Option.{option_map, option_map_or}
use Rattle.giotto_tasks.specs.declared.names.Name.{Name}
use Rattle.giotto_tasks.specs.Names.{Valuation, same_name}
use Rattle.giotto_tasks.specs.Meaning.{outputs_of, states_of}
use Rattle.giotto_tasks.specs.Syntax.{TaskBody}
use Rattle.giotto_tasks.specs.Syntax as syntax
use Rattle.giotto_tasks.proofs.cited.ListLemmas.{all_if_any, all_map, any_if_all, any_map, all_of, filter-map, list_all-filter, same_filter}
use Rattle.giotto_tasks.proofs.cited.TestLemmas.{and_false, and_true}
use Rattle.giotto_tasks.proofs.cited.NameLemmas.{same_name_is}
use Rattle.rig_model.specs.text.Program.{TaskDeclaration, TaskInvocation, ModeDeclaration, GiottoProgram, body_of, names_of}
use Rattle.tenant_slots.specs.well_formed.cited.Facts.{ProgramFits}
use Rattle.tenant_slots.specs.well_formed.Slots.{valuation_of}
use Rattle.tenant_slots.specs.well_formed.cited.Timetables.{AreEach, IsInvocation, place_of_task}
use Rattle.giotto_check.specs.declared.timetables.SlotInvocation.{SlotInvocation}
use Rattle.tenant_slots.proofs.of_well_formed.PlaceLemmas.{passes_there, place_within}
use Rattle.rig_model.specs.Due.{is_due_at}
use Rattle.tenant_slots.specs.cited.Due.{IsQuietAt, is_among_due}
use Rattle.tenant_slots.specs.Places.{name_of_task}
use Rattle.rig_model.specs.Updates.{all_updated, updates_happened}
use Rattle.tenant_slots.proofs.cited.Numbered.{invocation_due, mode_here, same_task, task_here}
use Rattle.rig_model.specs.grants.Grants.{GrantRows}
use Rattle.tenant_state.specs.declared.tenants.Active.{Active}
use Rattle.tenant_state.specs.declared.tenants.waiting.Waiting.{Waiting}
use Rattle.tenant_state.specs.declared.tenants.State as code
use Rattle.tenant_state.specs.declared.tenants.State.TheVariants as states
use Rattle.tenant_state.specs.inner.EntryTable.{ends_noted, is_left_open, is_task_open}
use Rattle.rig_model.specs.declared.jobs.JobId.{JobId}
use Rattle.tenant_jobs.specs.declared.jobs.JobResult.{JobResult}
use Rattle.tenant_jobs.specs.cited.Finished.{result_of}
use Rattle.rig_model.specs.Jobs.{same_job, has_job, job_of}
use Rattle.tenant_state.specs.Jobs.{body_in, job_in}
use Rattle.rig_model.specs.FirstHalf.{all_ended, ends_happened, outputs_of_end, due_tasks, names_due, still_active, unfinished_tasks, first_half_of, stopped_with}
use Rattle.rig_model.specs.Row.{overrun, ActiveTask, Row}
use Rattle.tenant_state.specs.Standing.{is_another, all_different_releases, with_last, Standing}
use Rattle.tenant_state.specs.cited.Standing.{AreEnded, has_active}
use Rattle.rig_model.specs.declared.config.Budgets.{Budgets}
use Rattle.tenant_state.specs.Tenants.{active_of, standing_of, state_of}
use Rattle.tenant_state.specs.inner.Tenants.{FitsProgram, FitsIts, IsActiveAs, IsActiveIn, IsActiveOf, IsTenant}
use Rattle.tenant_state.proofs.DueTasks.{any_parted, group, ends, is_open, is_unfinished, names_of_tasks, none_passes, stay}
use Rattle.tenant_state.proofs.FirstHalfOf.{Runs, due_are, goes_on, stops, unchanged}
use Rattle.tenant_state.proofs.Records.{last_noted}
use Rattle.tenant_state.proofs.Stops.{row_of}
use Rattle.rig_model.specs.trace.Trace.{LastRecords, with_happenings}
use Rattle.rig_model.specs.trace.cited.Noted.{noted}
use Rattle.rig_model.proofs.of_trace.Kept.{noted_behind}

-- if a tenant is unchanged and none of its tasks had ended, none ends
pub none_ended : (s : Standing) → s.ready.ended ≡ [] → AreEnded s s
none_ended s e j = ap (λ l. has_job s.tenancy.owner.place l j) e ∙ neither (has_active s j)
  where
    neither : (b : Bool) → false ≡ (b && not b)
    neither true = refl
    neither false = refl

pub some_of : {X : Type 0} {P : X → Type 0} (o : Option X) → IsSomeAnd o P → (x : X) × (o ≡ Some x) × P x
some_of None h = absurd h
some_of (Some x) h = (x, refl, h)

pub any_alike : {X Y : Type 0} (R : X → Y → Type 0) (f : X → Bool) (g : Y → Bool) → ((x : X) (y : Y) → R x y → f x ≡ g y) → (xs : List X) (ys : List Y) → AreEach R xs ys → list_any f xs ≡ list_any g ys
any_alike R f g same [] [] all = refl
any_alike R f g same [] (y ∷ ys) all = absurd all
any_alike R f g same (x ∷ xs) [] all = absurd all
any_alike R f g same (x ∷ xs) (y ∷ ys) all = ap (λ b. b || list_any f xs) (same x y all.0) ∙ ap (λ b. g y || b) (any_alike R f g same xs ys all.1)

-- what is found in one list corresponds to what is found in the other
abbrev FoundAlike : {X Y : Type 0} → (X → Y → Type 0) → Option X → Option Y → Type 0
FoundAlike R None None = Unit
FoundAlike R None (Some y) = ⊥
FoundAlike R (Some x) None = ⊥
FoundAlike R (Some x) (Some y) = R x y

find_alike : {X Y : Type 0} (R : X → Y → Type 0) (f : X → Bool) (g : Y → Bool) → ((x : X) (y : Y) → R x y → f x ≡ g y) → (xs : List X) (ys : List Y) → AreEach R xs ys → FoundAlike R (find f xs) (find g ys)
find_alike R f g same [] [] all = tt
find_alike R f g same [] (y ∷ ys) all = absurd all
find_alike R f g same (x ∷ xs) [] all = absurd all
find_alike R f g same (x ∷ xs) (y ∷ ys) all = subst (λ b. FoundAlike R (cond b (Some x) (find f xs)) (find g (y ∷ ys))) (sym (same x y all.0)) (by (g y) (find_alike R f g same xs ys all.1))
  where
    by : (b : Bool) → FoundAlike R (find f xs) (find g ys) → FoundAlike R (cond b (Some x) (find f xs)) (cond b (Some y) (find g ys))
    by true rest = all.0
    by false rest = rest

-- what is found among the remaining elements, one step further
pub found_from : {X : Type 0} (test : X → Bool) (xs : List X) (k : ℕ) (x : X) (b : Bool) → k < length xs → x ≡ get_or xs k x → test x ≡ b → find test (drop k xs) ≡ cond b (Some x) (find test (drop (k + 1) xs))
found_from test xs k x b lt is e = ap (find test) (drop_more xs k x lt ∙ ap (λ y. y ∷ drop (k + 1) xs) (sym is)) ∙ ap (λ c. cond c (Some x) (find test (drop (k + 1) xs))) e

-- the active entries whose tasks aren't due
abbrev pub kept : ℕ → List SlotInvocation → List Active → List Active
kept time es items = filter (λ a. not (is_among_due time a.task es)) items

-- nothing is found among the remaining elements, one step further
pub left_none : {X : Type 0} (test : X → Bool) (xs : List X) (k : ℕ) (x : X) → k < length xs → find test (drop k xs) ≡ None → find test (drop (k + 1) xs) ≡ None
left_none test xs k x lt e = by (test (get_or xs k x)) (sym (ap (find test) (drop_more xs k x lt)) ∙ e)
  where
    by : (b : Bool) → cond b (Some (get_or xs k x)) (find test (drop (k + 1) xs)) ≡ None → find test (drop (k + 1) xs) ≡ None
    by true e = absurd (cc)
    by false e = e

-- if nothing is found, the next of the remaining elements isn't it
pub not_here : {X : Type 0} (test : X → Bool) (xs : List X) (k : ℕ) (x : X) → k < length xs → x ≡ get_or xs k x → find test (drop k xs) ≡ None → test x ≡ false
not_here test xs k x lt is e = by (test x) (sym (found_from test xs k x (test x) lt is refl) ∙ e)
  where
    by : (b : Bool) → cond b (Some x) (find test (drop (k + 1) xs)) ≡ None → b ≡ false
    by true e = absurd (cc)
    by false e = refl

-- if all tasks are done, none is open
pub all_closed : (time : ℕ) (done : Active → Bool) (active : List Active) → AllByRecursion (λ a. done a ≡ true) active → (es : List SlotInvocation) → find (is_left_open time done active) es ≡ None
all_closed time done active h [] = refl
all_closed time done active h (e ∷ es) =
    ap (λ b. cond ((time % e.interval == 0) && b) (Some e) (find (is_left_open time done active) es)) (none active h) ∙ ap (λ b. cond b (Some e) (find (is_left_open time done active) es)) (and_false _) ∙ all_closed time done active h es
  where
    none : (xs : List Active) → AllByRecursion (λ a. done a ≡ true) xs → is_task_open done xs e.task ≡ false
    none [] h = refl
    none (a ∷ xs) h =
        ap (λ b. nat_eq a.task e.task && not b || is_task_open done xs e.task) h.0
        ∙ ap (λ b. b || is_task_open done xs e.task) (and_false _) ∙ none xs h.1

pub map_none : {A B : Type 0} (f : A → B) (o : Option A) → None ≡ option_map f o → o ≡ None
map_none f None e = refl
map_none f (Some x) e = absurd (cc)

pub map_some : {A B : Type 0} (f : A → B) (o : Option A) (y : B) → Some y ≡ option_map f o → (x : A) × (o ≡ Some x) × (f x ≡ y)
map_some f None y e = absurd (cc)
map_some f (Some x) y e = let same : f x ≡ y = cc in (x, refl, same)

-- if the result that came for an active task is that of its job, it is what the body of its declaration computes
pub result_here : (p : GiottoProgram) → ProgramFits p → (place : ℕ) (a : Active) (t : TaskDeclaration) → slice_get p.tasks a.task ≡ Some t → (r : JobResult) → r ≡ result_of (job_in p place (active_of p a))
    → (r.outputs ≡ outputs_of (body_of t) a.inputs a.states) × (r.states ≡ states_of (body_of t) a.inputs a.states) × (length r.states ≡ length t.states)
result_here p fits place a t at r is =
    let body : body_in p (name_of_task p a.task) ≡ body_of t = ap (λ o. option_map_or body_of o (record { inputs = []; outputs = []; states = []; block = syntax.finished })) (task_here p fits a.task t at) in
    let states = ap (λ (r : JobResult). r.states) is ∙ ap (λ b. states_of b a.inputs a.states) body in
    (ap (λ (r : JobResult). r.outputs) is ∙ ap (λ b. outputs_of b a.inputs a.states) body, states, ap length states ∙ length-map (names_of t.states) _ ∙ length-map t.states _)

-- the task at the place of a name has that name
pub name_of_place : (p : GiottoProgram) (x : Name) (k : ℕ) → place_of_task p x ≡ Some k → name_of_task p k ≡ x
name_of_place p x k place =
    let found = passes_there (λ (t : TaskDeclaration). same_name t.name x) 0 p.tasks k place in
    let here : found.0 ≡ k = omega (arith, found.2) in
    ap (name_of_task p) (sym here) ∙ ap (λ o. option_map_or (λ (t : TaskDeclaration). t.name) o []) found.3 ∙ same_name_is found.1.name x found.4

-- the ports and the trace after tasks end, task by task
pub ended_one_by_one : (p : GiottoProgram) (xs ys : List ActiveTask) (ports : Valuation) → all_ended p (xs ++ ys) ports ≡ all_ended p ys (all_ended p xs ports)
ended_one_by_one p [] ys ports = refl
ended_one_by_one p (x ∷ xs) ys ports = ended_one_by_one p xs ys _

pub noted_one_by_one : (p : GiottoProgram) (n : ℕ) (xs ys : List ActiveTask) (t : LastRecords) → ends_noted p n (xs ++ ys) t ≡ ends_noted p n ys (ends_noted p n xs t)
noted_one_by_one p n [] ys t = refl
noted_one_by_one p n (x ∷ xs) ys t = noted_one_by_one p n xs ys _

-- the trace records what happened
pub ends_are_noted : (p : GiottoProgram) (n : ℕ) (xs : List ActiveTask) (t : LastRecords) → ends_noted p n xs t ≡ noted n (ends_happened p xs) t
ends_are_noted p n [] t = refl
ends_are_noted p n (x ∷ xs) t = ends_are_noted p n xs _ ∙ sym (noted_behind n (option_map_or (outputs_of_end x) (task_named p x.task) []) (ends_happened p xs) t)

module _ (p : GiottoProgram) (fits : ProgramFits p) (m : ModeDeclaration) (time : ℕ) where
  -- an active task has the name of an invocation's task exactly if it has that task's place
  same_place : (a : Active) (i : TaskInvocation) (e : SlotInvocation) → IsActiveOf p a → IsInvocation p m i e → same_name (name_of_task p a.task) i.task ≡ nat_eq a.task e.task
  same_place a i e is entry = let there = some_of (slice_get p.tasks a.task) is in same_task p fits a.task e.task there.0 i.task there.1 entry.task

  module _ (completed : ActiveTask → Bool) where
    unfinished_alike : (i : TaskInvocation) (e : SlotInvocation) → IsInvocation p m i e → (items : List Active) → AllByRecursion (IsActiveOf p) items
        → is_unfinished m time (map (active_of p) items) completed i.task ≡ is_task_open (λ a. completed (active_of p a)) items e.task
    unfinished_alike i e entry [] all = refl
    unfinished_alike i e entry (a ∷ items) all =
        ap (λ b. b && not (completed (active_of p a)) || is_unfinished m time (map (active_of p) items) completed i.task) (same_place a i e all.0 entry)
        ∙ ap (λ b. nat_eq a.task e.task && not (completed (active_of p a)) || b) (unfinished_alike i e entry items all.1)

    open_alike : (items : List Active) → AllByRecursion (IsActiveOf p) items → (i : TaskInvocation) (e : SlotInvocation) → IsInvocation p m i e
        → is_open m time (map (active_of p) items) completed i ≡ is_left_open time (λ a. completed (active_of p a)) items e
    open_alike items all i e entry =
        ap (λ b. b && is_unfinished m time (map (active_of p) items) completed i.task) (sym (invocation_due p fits time m i e entry))
        ∙ ap (λ b. (time % e.interval == 0) && b) (unfinished_alike i e entry items all)

  ends_alike : (is : List TaskInvocation) (es : List SlotInvocation) → AreEach (IsInvocation p m) is es → (items : List Active) (a : Active) → IsActiveOf p a
      → ends m time (map (active_of p) items) is (name_of_task p a.task) ≡ list_any (λ (e : SlotInvocation). nat_eq a.task e.task && (time % e.interval == 0)) es
  ends_alike is es each items a is_of =
      any_alike (IsInvocation p m) _ _ (λ i e entry. ap (λ b. b && is_due_at time m i.frequency) (same_place a i e is_of entry) ∙ ap (λ b. nat_eq a.task e.task && b) (sym (invocation_due p fits time m i e entry))) is es each

  stay_alike : (is : List TaskInvocation) (es : List SlotInvocation) → AreEach (IsInvocation p m) is es → (items : List Active) → AllByRecursion (IsActiveOf p) items
      → filter (λ (a : ActiveTask). not (ends m time (map (active_of p) items) is a.task)) (map (active_of p) items)
      ≡ map (active_of p) (filter (λ a. not (list_any (λ (e : SlotInvocation). nat_eq a.task e.task && (time % e.interval == 0)) es)) items)
  stay_alike is es each items all = filter-map (active_of p) _ _ items (all_map _ _ items (λ a is_of. ap not (ends_alike is es each items a is_of)) all)

  -- whether the task of a job's name is due
  goes : (is : List TaskInvocation) (es : List SlotInvocation) → AreEach (IsInvocation p m) is es → (items : List Active) → AllByRecursion (IsActiveOf p) items → (place : ℕ) (j : JobId) → (xs : List Active) → AllByRecursion (IsActiveOf p) xs
      → AllByRecursion (λ a. same_job (job_of place (active_of p a)) j ≡ true → is_among_due time a.task es ≡ ends m time (map (active_of p) items) is j.task) xs
  goes is es each items all place j = λ xs. all_map (IsActiveOf p) _ xs (λ a is_of h.
      sym (ends_alike is es each items a is_of) ∙ ap (ends m time (map (active_of p) items) is) (same_name_is (name_of_task p a.task) j.task (and_parts _ _ h).1))

  -- a job is that of a task that ends exactly if the job is active and doesn't stay
  ended_alike : (is : List TaskInvocation) (es : List SlotInvocation) → AreEach (IsInvocation p m) is es → (items : List Active) → AllByRecursion (IsActiveOf p) items → (place : ℕ) (j : JobId)
      → list_any (λ a. same_job (job_of place (active_of p a)) j) (filter (λ a. is_among_due time a.task es) items)
      ≡ (list_any (λ a. same_job (job_of place (active_of p a)) j) items && not (list_any (λ a. same_job (job_of place (active_of p a)) j) (kept time es items)))
  ended_alike is es each items all place j = any_parted _ _ (ends m time (map (active_of p) items) is j.task) items (goes is es each items all place j items all)

  pub told_ended : (is : List TaskInvocation) (es : List SlotInvocation) → AreEach (IsInvocation p m) is es → (items : List Active) → AllByRecursion (IsActiveOf p) items → (place : ℕ) (j : JobId) (left gone : List Active)
      → left ≡ kept time es items → ((test : Active → Bool) → list_any test gone ≡ list_any test (filter (λ a. is_among_due time a.task es) items))
      → has_job place (map (active_of p) gone) j ≡ (has_job place (map (active_of p) items) j && not (has_job place (map (active_of p) left) j))
  told_ended is es each items all place j left gone stay told =
      let has : (xs : List Active) → has_job place (map (active_of p) xs) j ≡ list_any (λ a. same_job (job_of place (active_of p a)) j) xs = any_map (λ (a : ActiveTask). same_job (job_of place a) j) (active_of p) in
      has gone ∙ told _ ∙ ended_alike is es each items all place j ∙ sym (λ k. has items k && not ((ap (λ xs. has_job place (map (active_of p) xs) j) stay ∙ has (kept time es items)) k))

  -- the tasks of one invocation end, or none if it isn't due
  module _ (items : List Active) (all : AllByRecursion (IsActiveOf p) items) (is : List TaskInvocation) (i : TaskInvocation) (e : SlotInvocation) (k : ℕ) (here : drop k is ≡ i ∷ drop (k + 1) is) (entry : IsInvocation p m i e) where
    group_alike : (b : Bool) → (time % e.interval == 0) ≡ b → group m time (map (active_of p) items) i ≡ map (active_of p) (filter (λ a. nat_eq a.task e.task && b) items)
    group_alike b due =
        filter-map (active_of p) _ _ items
        (all_map _ _ items (λ a is_of. ap (λ c. c && is_due_at time m i.frequency) (same_place a i e is_of entry) ∙ ap (λ c. nat_eq a.task e.task && c) (sym (invocation_due p fits time m i e entry) ∙ due)) all)

    -- anything that changes as tasks end, task by task
    module _ {S : Type 0} (by_ends : List ActiveTask → S → S) (one_by_one : (xs ys : List ActiveTask) (s : S) → by_ends (xs ++ ys) s ≡ by_ends ys (by_ends xs s)) where
      end_step : (b : Bool) → (time % e.interval == 0) ≡ b → (start after whole : S) → after ≡ by_ends (map (active_of p) (filter (λ a. nat_eq a.task e.task && b) items)) start
          → by_ends (flat_map (group m time (map (active_of p) items)) (drop k is)) start ≡ whole → by_ends (flat_map (group m time (map (active_of p) items)) (drop (k + 1) is)) after ≡ whole
      end_step b due start after whole same h =
          let rest = flat_map (group m time (map (active_of p) items)) (drop (k + 1) is) in
          ap (by_ends rest) (same ∙ ap (λ ts. by_ends ts start) (sym (group_alike b due))) ∙ sym (one_by_one (group m time (map (active_of p) items) i) rest start)
          ∙ ap (λ l. by_ends (flat_map (group m time (map (active_of p) items)) l) start) (sym here) ∙ h

      pub end_due : (time % e.interval == 0) ≡ true → (start after whole : S) → after ≡ by_ends (map (active_of p) (filter (λ a. nat_eq a.task e.task) items)) start
          → by_ends (flat_map (group m time (map (active_of p) items)) (drop k is)) start ≡ whole → by_ends (flat_map (group m time (map (active_of p) items)) (drop (k + 1) is)) after ≡ whole
      end_due due start after whole same h =
          end_step true due start after whole (same ∙ ap (λ xs. by_ends (map (active_of p) xs) start) (same_filter _ _ items (all_of (λ a. sym (and_true (nat_eq a.task e.task))) items))) h

      pub end_none : (time % e.interval == 0) ≡ false → (none : (s : S) → by_ends [] s ≡ s) → (start whole : S)
          → by_ends (flat_map (group m time (map (active_of p) items)) (drop k is)) start ≡ whole → by_ends (flat_map (group m time (map (active_of p) items)) (drop (k + 1) is)) start ≡ whole
      end_none due none start whole h =
          end_step false due start start whole (sym (ap (λ xs. by_ends (map (active_of p) xs) start) (none_passes _ items (all_of (λ a. and_false (nat_eq a.task e.task)) items)) ∙ none start)) h

-- the tasks of a mode's invocations have places
pub tasks_within : (p : GiottoProgram) (m : ModeDeclaration) (is : List TaskInvocation) (es : List SlotInvocation) → AreEach (IsInvocation p m) is es → AllByRecursion (λ (e : SlotInvocation). e.task < length p.tasks) es
tasks_within p m [] [] each = tt
tasks_within p m [] (e ∷ es) each = absurd each
tasks_within p m (i ∷ is) [] each = absurd each
tasks_within p m (i ∷ is) (e ∷ es) each = let within = place_within (λ (t : TaskDeclaration). same_name t.name i.task) 0 p.tasks e.task each.0.task in (omega (arith, within), tasks_within p m is es each.1)

-- the mode at a place
pub its_mode : (p : GiottoProgram) (k : ℕ) → k < length p.modes → (m : ModeDeclaration) × (slice_get p.modes k ≡ Some m)
its_mode p k lt = ⊎_elim (λ found. (found.0, found.2)) (λ past. absurd (omega (arith, past.0, lt))) (slice_get_cases p.modes k).1

-- a running tenant with this program, by its fields
pub record IsRunning (tenant : Standing) (grants : GrantRows) (p : GiottoProgram) (mode time next : ℕ) (active ended : List Active) (values : List ℤ) (shares : List (Option TaskBody)) (waiting : Option Waiting) (trace : LastRecords) (next_tick : ℕ) : Type 0 where
  pub row : tenant.row ≡ row_of grants states.Running (Some p) mode time active values waiting trace next_tick
  pub fits : FitsProgram p mode time next active ended values shares next_tick
  pub declared : AllByRecursion (IsActiveOf p) active
  pub its : ModeDeclaration
  pub there : slice_get p.modes mode ≡ Some its

pub as_running : {tenant : Standing} {state : code.State} {program : Option GiottoProgram} {p : GiottoProgram} {budgets : Budgets} {grants : GrantRows} {mode time next : ℕ} {active ended : List Active} {room : ℕ} {values : List ℤ} {shares : List (Option TaskBody)} {next_tick : ℕ}
    → (waiting : Option Waiting) (trace : LastRecords) → standing_of budgets grants state program mode time active ended room values shares waiting trace next_tick ≡ tenant → IsTenant (state_of state) program mode time next active ended values shares next_tick → state ≡ states.Running → program ≡ Some p
    → IsRunning tenant grants p mode time next active ended values shares waiting trace next_tick
as_running {p = p} {grants = grants} {mode = mode} {time = time} {next = next} {active = active} {ended = ended} {values = values} {shares = shares} {next_tick = next_tick} waiting trace view known running some =
    let fits : FitsProgram p mode time next active ended values shares next_tick = subst (λ o. FitsIts o mode time next active ended values shares next_tick) some known.fits in
    let m = its_mode p mode fits.mode_there in
    record {
      row = sym (ap (λ (t : Standing). t.row) view) ∙ (λ k. row_of grants (running k) (some k) mode time active values waiting trace next_tick);
      fits = fits;
      declared = all_map (IsActiveIn p next_tick) (IsActiveOf p) active (λ a is. is.declared) fits.each;
      its = m.0;
      there = m.1;
    }

-- what holds of each image holds of the element that it is made from
pub all_unmapped : {X Y : Type 0} (P : Y → Type 0) (f : X → Y) (xs : List X) → AllByRecursion P (map f xs) → AllByRecursion (λ x. P (f x)) xs
all_unmapped P f [] all = tt
all_unmapped P f (x ∷ xs) all = (all.0, all_unmapped P f xs all.1)

abbrev is_declared : GiottoProgram → Active → Bool
is_declared p a = option_map_or (λ (t : TaskDeclaration). nat_eq (length a.inputs) (length t.inputs) && nat_eq (length a.states) (length t.states)) (slice_get p.tasks a.task) false

declared_from : (p : GiottoProgram) (a : Active) → IsActiveOf p a → is_declared p a ≡ true
declared_from p a is =
    let there = some_of (slice_get p.tasks a.task) is in
    ap (λ o. option_map_or (λ (t : TaskDeclaration). nat_eq (length a.inputs) (length t.inputs) && nat_eq (length a.states) (length t.states)) o false) there.1
    ∙ and_from _ _ (eq-eqb _ _ there.2.inputs_fit) (eq-eqb _ _ there.2.states_fit)

declared_is : (p : GiottoProgram) (a : Active) → (not (is_declared p a) ≡ true → ⊥) → IsActiveOf p a
declared_is p a = by (slice_get p.tasks a.task)
  where
    by : (o : Option TaskDeclaration) → (not (option_map_or (λ (t : TaskDeclaration). nat_eq (length a.inputs) (length t.inputs) && nat_eq (length a.states) (length t.states)) o false) ≡ true → ⊥) → IsSomeAnd o (IsActiveAs a)
    by None h = absurd (h refl)
    by (Some t) h =
        let both = and_parts _ _ (certain _ h) in
        record { inputs_fit = eqb-true _ _ both.0; states_fit = eqb-true _ _ both.1 }
      where
        certain : (b : Bool) → (not b ≡ true → ⊥) → b ≡ true
        certain true h = refl
        certain false h = absurd (h refl)

-- if entries pass exactly the tests that entries of the program pass, they are entries of the program too
pub each_among : (p : GiottoProgram) (xs ys : List Active) → ((test : Active → Bool) → list_any test ys ≡ list_any test xs) → AllByRecursion (IsActiveOf p) xs → AllByRecursion (IsActiveOf p) ys
each_among p xs ys same all =
    let strange : Active → Bool = λ a. not (is_declared p a) in
    all_map _ (IsActiveOf p) ys (declared_is p) (all_if_any strange ⊥ ys (λ e.
    any_if_all strange ⊥ xs (all_map (IsActiveOf p) _ xs (λ a is e. false≢true (sym (ap not (declared_from p a is)) ∙ e)) all) (sym (same strange) ∙ e)))

pub different_filter : (p : GiottoProgram) (test : Active → Bool) (xs : List Active) → all_different_releases (map (active_of p) xs) ≡ true → all_different_releases (map (active_of p) (filter test xs)) ≡ true
different_filter p test [] h = refl
different_filter p test (x ∷ xs) h =
    let both = and_parts (list_all (is_another (active_of p x)) (map (active_of p) xs)) _ h in
    at_head (test x) (others xs both.0) (different_filter p test xs both.1)
  where
    later : List Active → List ActiveTask
    later ys = map (active_of p) (filter test ys)

    at_head : (b : Bool) → list_all (is_another (active_of p x)) (later xs) ≡ true → all_different_releases (later xs) ≡ true → all_different_releases (map (active_of p) (cond b (x ∷ filter test xs) (filter test xs))) ≡ true
    at_head true e rest = and_from _ _ e rest
    at_head false e rest = rest

    others : (ys : List Active) → list_all (is_another (active_of p x)) (map (active_of p) ys) ≡ true → list_all (is_another (active_of p x)) (later ys) ≡ true
    others ys h = list_all-map (is_another (active_of p x)) (active_of p) (filter test ys) ∙ list_all-filter (λ y. is_another (active_of p x) (active_of p y)) test ys (sym (list_all-map (is_another (active_of p x)) (active_of p) ys) ∙ h)

-- a running tenant, and a row that it represents
module _ (grants : GrantRows) (p : GiottoProgram) (fits : ProgramFits p) (m : ModeDeclaration) (mode time : ℕ) (items : List Active) (values : List ℤ) (waiting : Option Waiting) (trace : LastRecords) (count most : ℕ)
    (at : slice_get p.modes mode ≡ Some m) (completed : ActiveTask → Bool) (row : Row) (st : row_of grants states.Running (Some p) mode time items values waiting trace count ≡ with_last most row) where
  runs : Runs row p m
  runs = record {
    state = sym (ap (λ (r : Row). r.state) st);
    program = sym (ap (λ (r : Row). r.program) st);
    mode = ap (mode_named p) (sym (ap (λ (r : Row). r.mode) st)) ∙ mode_here p fits mode m at;
  }

  same_time : time ≡ row.mode_time
  same_time = ap (λ (r : Row). r.mode_time) st

  same_active : map (active_of p) items ≡ row.active
  same_active = ap (λ (r : Row). r.active) st

  same_ports : valuation_of p values ≡ row.ports
  same_ports = ap (λ (r : Row). r.ports) st

  -- nothing is due
  pub quiet_stands : IsQuietAt m time → row_of grants states.Running (Some p) mode time items values waiting trace count ≡ with_last most (first_half_of (unfinished_tasks completed row) row)
  quiet_stands quiet = st ∙ ap (with_last most) (sym (unchanged row p m runs completed (subst (IsQuietAt m) same_time quiet)))

  module _ (es : List SlotInvocation) (each : AreEach (IsInvocation p m) m.invocations es) (all : AllByRecursion (IsActiveOf p) items) where
    abbrev left_open : SlotInvocation → Bool
    left_open e = is_left_open time (λ a. completed (active_of p a)) items e

    found : FoundAlike (IsInvocation p m) (find (is_open m row.mode_time row.active completed) m.invocations) (find left_open es)
    found = subst (λ o. FoundAlike (IsInvocation p m) o (find left_open es)) (λ k. find (is_open m (same_time k) (same_active k) completed) m.invocations)
        (find_alike (IsInvocation p m) (is_open m time (map (active_of p) items) completed) left_open (open_alike p fits m time completed items all) m.invocations es each)

    -- no due task is left open
    pub finished : trace.most ≡ most → find left_open es ≡ None → (ended after : List ℤ) (told : LastRecords)
        → valuation_of p ended ≡ all_ended p (flat_map (group m time (map (active_of p) items)) m.invocations) (valuation_of p values)
        → valuation_of p after ≡ all_updated m time m.updates (valuation_of p ended)
        → told ≡ noted count (ends_happened p (flat_map (group m time (map (active_of p) items)) m.invocations) ++ updates_happened m time m.updates (valuation_of p ended)) trace
        → row_of grants states.Running (Some p) mode time (kept time es items) after waiting told count ≡ with_last most (first_half_of (unfinished_tasks completed row) row)
    finished same none ended after told end_value update_value told_value =
        let steps = goes_on row p m runs completed (by_none _ (subst (FoundAlike (IsInvocation p m) _) none found)) in
        let remaining : map (active_of p) (kept time es items) ≡ still_active (names_due row) row.active =
        sym (stay_alike p fits m time m.invocations es each items all) ∙ sym (stay m time (map (active_of p) items) m.invocations)
        ∙ (λ k. still_active (names_of_tasks (flat_map (group m (same_time k) (same_active k)) m.invocations)) (same_active k))
        ∙ ap (λ ts. still_active (names_of_tasks ts) row.active) (sym (due_are row p m runs completed)) in
        let new_ports : valuation_of p after ≡ all_updated m row.mode_time m.updates (all_ended p (due_tasks row) row.ports) =
        update_value ∙ ap (all_updated m time m.updates) end_value
        ∙ (λ k. all_updated m (same_time k) m.updates (all_ended p (flat_map (group m (same_time k) (same_active k)) m.invocations) (same_ports k)))
        ∙ ap (λ ts. all_updated m row.mode_time m.updates (all_ended p ts row.ports)) (sym (due_are row p m runs completed)) in
        let dues : flat_map (group m time (map (active_of p) items)) m.invocations ≡ due_tasks row =
        (λ k. flat_map (group m (same_time k) (same_active k)) m.invocations) ∙ sym (due_are row p m runs completed) in
        let ports_ended : valuation_of p ended ≡ all_ended p (due_tasks row) row.ports = end_value ∙ (λ k. all_ended p (dues k) (same_ports k)) in
        let new_records : told.records ≡ take most (with_happenings row.next_tick (ends_happened p (due_tasks row) ++ updates_happened m row.mode_time m.updates (all_ended p (due_tasks row) row.ports)) row.records) =
        ap (λ (t : LastRecords). t.records) told_value
        ∙ last_noted most count (ends_happened p (flat_map (group m time (map (active_of p) items)) m.invocations) ++ updates_happened m time m.updates (valuation_of p ended)) row.records trace same (ap (λ (r : Row). r.records) st)
        ∙ (λ k. take most (with_happenings (st k).next_tick (ends_happened p (dues k) ++ updates_happened m (same_time k) m.updates (ports_ended k)) row.records)) in
        ap (λ (r : Row). record r { active = map (active_of p) (kept time es items); ports = valuation_of p after; records = told.records }) st
        ∙ (λ k. record row { active = remaining k; ports = new_ports k; records = new_records k }) ∙ ap (with_last most) (sym steps)
      where
        by_none : (o : Option TaskInvocation) → FoundAlike (IsInvocation p m) o None → o ≡ None
        by_none None h = refl
        by_none (Some i) h = absurd h

    -- the first task that is left open stops the tenant
    pub halted : (e : SlotInvocation) → find left_open es ≡ Some e → (x : Name) → x ≡ name_of_task p e.task → first_half_of (unfinished_tasks completed row) row ≡ stopped_with (overrun x) row
    halted e first x named = by _ refl (subst (FoundAlike (IsInvocation p m) _) first found)
      where
        by : (o : Option TaskInvocation) → find (is_open m row.mode_time row.active completed) m.invocations ≡ o → FoundAlike (IsInvocation p m) o (Some e)
            → first_half_of (unfinished_tasks completed row) row ≡ stopped_with (overrun x) row
        by None f h = absurd h
        by (Some i) f entry = stops row p m runs completed i f ∙ sym (ap (λ y. stopped_with (overrun y) row) (named ∙ name_of_place p i.task e.task entry.task))

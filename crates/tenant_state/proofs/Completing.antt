-- The jobs of active tasks, and the results that are computed for them.
use Rattle.std.proofs.Common.{◌≡◌, ℕ, zero, suc, ◌++◌, append-nil, ◌+◌, ◌<◌, ◌↔◌, Bool, true, false, not, ◌&&◌, ◌||◌, cond, List, [], ◌∷◌, map, filter, find, length, drop, get_or, slice_get, option_map, is_some, IfSome, IsSomeAnd, Option, Some, None, refl, sym, ap, ◌∙◌, subst, arith}
use Rattle.std.specs.Arc.{arc_value}
use Rattle.std.specs.List.{list_all, AllByRecursion}
use Rattle.std.specs.Option.{option_and_then, option_map_or}
use Rattle.std.proofs.lemmas.Bool.{false≢true, and_parts, false_from_ne_true, not-false}
use Rattle.std.proofs.lemmas.List.{length-map}
use Rattle.std.proofs.lemmas.List.Elements.{filter-append}
use Rattle.std.proofs.lemmas.List.Folds.{list_any_at}
use Rattle.std.proofs.lemmas.Option.{slice_get_read}
use Rattle.std.proofs.Math.ListN.{get_or-map}
use Rattle.giotto_tasks.specs.Sound.{IsSound}
use Rattle.giotto_tasks.specs.Syntax.{TaskBody, finished}
use Rattle.rig_model.specs.text.Program.{GiottoProgram, body_of}
use Rattle.rig_model.specs.text.ProgramTrees as trees
use Rattle.rig_model.specs.declared.text.programs.Task.{Task}
use Rattle.tenant_slots.specs.well_formed.cited.Facts.{ProgramFits}
use Rattle.tenant_slots.proofs.cited.Numbered.{task_here, task_fits_at}
use Rattle.rig_model.specs.declared.jobs.JobId.{JobId}
use Rattle.tenant_jobs.specs.Finished.{TableEntry, entry_in, result_in, has_result}
use Rattle.tenant_jobs.specs.cited.Finished.{is_entered, result_of}
use Rattle.tenant_jobs.specs.Jobs.{JobValue}
use Rattle.rig_model.specs.Jobs.{same_job, has_job, job_of}
use Rattle.rig_model.proofs.cited.JobNames.{same_job_is}
use Rattle.tenant_state.specs.declared.tenants.Active.{Active}
use Rattle.tenant_state.specs.Jobs.{body_in, job_in}
use Rattle.rig_model.specs.Row.{ActiveTask}
use Rattle.tenant_state.specs.Standing.{is_another, all_different_releases}
use Rattle.tenant_state.specs.Tenants.{active_of}
use Rattle.tenant_state.specs.inner.Tenants.{IsActiveAs, IsActiveOf}
use Rattle.tenant_state.proofs.AwaitedTasks.{from_place, find-map, alone, different_drop, another_job}
use Rattle.giotto_tasks.proofs.cited.ListLemmas.{all_at, all_mapped_at, all_pass, all_with, find_passes, same_filter, some_same}
use Rattle.giotto_tasks.proofs.cited.TestLemmas.{and_false, or_true, or_assoc, or_turned}
use Rattle.tenant_state.proofs.TenantFacts.{body_of_task}

-- the task of an active task
module _ (p : GiottoProgram) (a : Active) (t : Task) (task : slice_get p.tasks a.task ≡ Some (trees.task_of t)) where
  pub fits_body : IsActiveOf p a → (length a.inputs ≡ length (arc_value t.body).inputs) × (length a.states ≡ length (arc_value t.body).states)
  fits_body of =
      let is = subst (λ o. IsSomeAnd o (IsActiveAs a)) task of in
      (is.inputs_fit, is.states_fit ∙ sym (length-map (trees.task_of t).states (λ s. s.0)) ∙ ap (λ (b : TaskBody). length b.states) (body_of_task t))

  pub sound_body : ProgramFits p → IsSound (arc_value t.body)
  sound_body fits = subst IsSound (body_of_task t) (task_fits_at p fits a.task (trees.task_of t) task).sound

  pub body_is : ProgramFits p → body_in p (active_of p a).task ≡ arc_value t.body
  body_is fits = ap (λ o. option_map_or body_of o (record { inputs = []; outputs = []; states = []; block = finished })) (task_here p fits a.task (trees.task_of t) task) ∙ body_of_task t

-- the active task at a place
pub so_there : (tasks : List Active) (i : ℕ) (a : Active) → i < length tasks → a ≡ get_or tasks i a → (P : Active → Type 0) → AllByRecursion P tasks → P a
so_there tasks i a lt at P all = subst P (sym at) (all_at P tasks i a lt all)

-- if there is no such job, no completion is awaited
pub none_awaited : (has : Bool) (o : Option JobValue) → o ≡ None → cond has None o ≡ None
none_awaited true o e = refl
none_awaited false o e = e

-- the active task that is found by the name of its job
module _ (p : GiottoProgram) (t : ℕ) (j : JobId) (tasks : List Active) where
  abbrev named : Active → Bool
  named a = same_job (job_of t (active_of p a)) j

  abbrev job_found : Option JobValue
  job_found = option_map (job_in p t) (find (λ a. same_job (job_of t a) j) (map (active_of p) tasks))

  pub none_there : find named tasks ≡ None → job_found ≡ None
  none_there none = ap (option_map (job_in p t)) (find-map (active_of p) (λ a. same_job (job_of t a) j) tasks ∙ ap (option_map (active_of p)) none)

  name_here : (i : ℕ) (a : Active) → i < length tasks → a ≡ get_or tasks i a → find named tasks ≡ slice_get tasks i → job_of t (active_of p a) ≡ j
  name_here i a lt at found = same_job_is (job_of t (active_of p a)) j (find_passes named tasks a (found ∙ slice_get_read tasks (length tasks) i a refl lt at))

  -- if the result came, no completion is awaited
  pub not_awaited : (entries : List TableEntry) (i : ℕ) (a : Active) → i < length tasks → a ≡ get_or tasks i a → find named tasks ≡ slice_get tasks i
      → has_result entries (job_of t (active_of p a)) ≡ true → cond (has_result entries j) None job_found ≡ None
  not_awaited entries i a lt at found came = ap (λ b. cond b None job_found) (ap (has_result entries) (sym (name_here i a lt at found)) ∙ came)

  module _ (i : ℕ) (a : Active) (lt : i < length tasks) (at : a ≡ get_or tasks i a) (found : find named tasks ≡ slice_get tasks i)
      (fits : ProgramFits p) (d : Task) (task : slice_get p.tasks a.task ≡ Some (trees.task_of d)) where
    found_is : find named tasks ≡ Some a
    found_is = found ∙ slice_get_read tasks (length tasks) i a refl lt at

    abbrev pub own_job : JobValue
    own_job = record { id = j; body = arc_value d.body; inputs = a.inputs; states = a.states }

    pub job_is : job_found ≡ Some own_job
    job_is =
        let name = name_here i a lt at found in
        let body : body_in p (active_of p a).task ≡ arc_value d.body = body_is p a d task fits in
        ap (option_map (job_in p t)) (find-map (active_of p) (λ a. same_job (job_of t a) j) tasks ∙ ap (option_map (active_of p)) found_is)
        ∙ λ k. Some (record { id = name k; body = body k; inputs = a.inputs; states = a.states })

    -- if its result didn't come, its completion is awaited
    pub awaited_now : (entries : List TableEntry) → has_result entries (job_of t (active_of p a)) ≡ false → cond (has_result entries j) None job_found ≡ Some own_job
    awaited_now entries none = ap (λ b. cond b None job_found) (ap (has_result entries) (sym (name_here i a lt at found)) ∙ none) ∙ job_is

    pub awaits : (v : JobValue) → v.id ≡ j → ((arc_value d.body ≡ v.body) × (a.inputs ≡ v.inputs) × (a.states ≡ v.states)) ↔ (job_found ≡ Some v)
    awaits v own = (
      λ is. job_is ∙ λ k. Some (record { id = sym own k; body = is.0 k; inputs = is.1 k; states = is.2 k }),
      λ e. let same = some_same own_job v (sym job_is ∙ e) in (ap (λ (j : JobValue). j.body) same, ap (λ (j : JobValue). j.inputs) same, ap (λ (j : JobValue). j.states) same),
    )

-- the tasks without a result
abbrev pub left_of : ℕ → List TableEntry → List ActiveTask → List ActiveTask
left_of t entries tasks = filter (λ a. not (has_result entries (job_of t a))) tasks

-- with one more task at the end
module _ (t : ℕ) (entries : List TableEntry) (tasks : List ActiveTask) (a : ActiveTask) where
  pub left_with : has_result entries (job_of t a) ≡ false → left_of t entries (tasks ++ a ∷ []) ≡ left_of t entries tasks ++ a ∷ []
  left_with none = filter-append (λ b. not (has_result entries (job_of t b))) tasks (a ∷ []) ∙ ap (λ b. left_of t entries tasks ++ cond (not b) (a ∷ []) []) none

  pub left_without : has_result entries (job_of t a) ≡ true → left_of t entries (tasks ++ a ∷ []) ≡ left_of t entries tasks
  left_without some =
      filter-append (λ b. not (has_result entries (job_of t b))) tasks (a ∷ []) ∙ ap (λ b. left_of t entries tasks ++ cond (not b) (a ∷ []) []) some
      ∙ append-nil (left_of t entries tasks)

pub some_left : (t : ℕ) (entries : List TableEntry) (tasks : List ActiveTask) (i : ℕ) (d : ActiveTask) → i < length tasks → has_result entries (job_of t (get_or tasks i d)) ≡ false → 0 < length (left_of t entries tasks)
some_left t entries [] i d lt none = absurd (omega (arith, lt))
some_left t entries (a ∷ rest) zero d lt none = let here : not (has_result entries (job_of t a)) ≡ true = ap not none in rw here (omega arith)
some_left t entries (a ∷ rest) (suc i) d lt none = by (not (has_result entries (job_of t a))) (some_left t entries rest i d (omega (arith, lt)) none)
  where
    by : (b : Bool) → 0 < length (left_of t entries rest) → 0 < length (cond b (a ∷ left_of t entries rest) (left_of t entries rest))
    by true some = omega (arith, some)
    by false some = some

module _ (p : GiottoProgram) (t : ℕ) where
  -- the result that came for the task's job, if any, is that of the job
  abbrev IsRight : List TableEntry → ActiveTask → Type 0
  IsRight entries a = IfSome (result_in entries (job_of t a)) (λ r. r ≡ result_of (job_in p t a))

  -- the tasks before this place have their results
  pub record AreComputedTo (tasks : List ActiveTask) (i : ℕ) (old now : List TableEntry) : Type 0 where
    pub entered : (j : JobId) → is_entered now j ≡ is_entered old j
    pub results : (j : JobId) → (has_result now j || has_job t (drop i tasks) j) ≡ (has_result old j || has_job t tasks j)
    pub right : AllByRecursion (IsRight old) tasks → AllByRecursion (IsRight now) tasks
    pub others : (j : JobId) → has_job t tasks j ≡ false → entry_in now j ≡ entry_in old j

  module _ (tasks : List ActiveTask) (i : ℕ) (a : ActiveTask) (lt : i < length tasks) (at : a ≡ get_or tasks i a) (different : all_different_releases tasks ≡ true)
      (now new : List TableEntry) (done : Bool) (entered : is_entered now (job_of t a) ≡ true) (was : done ≡ not (has_result now (job_of t a)))
      (entries : (j : JobId) → entry_in new j ≡ cond (done && same_job (job_of t a) j) (Some (record { id = j; result = Some (result_of (job_in p t a)) })) (entry_in now j)) where
    abbrev put : JobId → Option TableEntry
    put j = Some (record { id = j; result = Some (result_of (job_in p t a)) })

    entry_by : (j : JobId) (d s : Bool) → done ≡ d → same_job (job_of t a) j ≡ s → entry_in new j ≡ cond (d && s) (put j) (entry_in now j)
    entry_by j d s e f = entries j ∙ ap (λ b. cond (b && same_job (job_of t a) j) (put j) (entry_in now j)) e ∙ ap (λ b. cond (d && b) (put j) (entry_in now j)) f

    still_entered : (j : JobId) → is_entered new j ≡ is_entered now j
    still_entered j = by done (same_job (job_of t a) j) refl refl
      where
        by : (d s : Bool) → done ≡ d → same_job (job_of t a) j ≡ s → is_entered new j ≡ is_entered now j
        by true true e f = ap is_some (entry_by j true true e f) ∙ sym (subst (λ i. is_entered now i ≡ true) (same_job_is (job_of t a) j f) entered)
        by true false e f = ap is_some (entry_by j true false e f)
        by false s e f = ap is_some (entry_by j false s e f)

    one_result : (j : JobId) → has_result new j ≡ (has_result now j || same_job (job_of t a) j)
    one_result j = by done (same_job (job_of t a) j) refl refl
      where
        came : Option TableEntry → Bool
        came o = is_some (option_and_then (λ (e : TableEntry). e.result) o)

        by : (d s : Bool) → done ≡ d → same_job (job_of t a) j ≡ s → has_result new j ≡ (has_result now j || same_job (job_of t a) j)
        by true true e f = ap came (entry_by j true true e f) ∙ sym (ap (λ b. has_result now j || b) f ∙ or_true (has_result now j))
        by d false e f = ap came (entry_by j d false e f ∙ ap (λ b. cond b (put j) (entry_in now j)) (and_false d)) ∙ sym (ap (λ b. has_result now j || b) f ∙ or_turned (has_result now j) false)
        by false true e f =
            let there : has_result now j ≡ true = subst (λ i. has_result now i ≡ true) (same_job_is (job_of t a) j f) (not-false _ (sym was ∙ e)) in
            ap came (entry_by j false true e f) ∙ there ∙ sym (ap (λ b. b || same_job (job_of t a) j) there)

    still_right : AllByRecursion (IsRight now) tasks → AllByRecursion (IsRight new) tasks
    still_right right = all_with (IsRight now) (λ b. same_job (job_of t a) (job_of t b) ≡ true → b ≡ a) (IsRight new) (λ b r one. by b r one done (same_job (job_of t a) (job_of t b)) refl refl) tasks right (alone t tasks i a lt at different)
      where
        IsRightIn : ActiveTask → Option TableEntry → Type 0
        IsRightIn b o = IfSome (option_and_then (λ (e : TableEntry). e.result) o) (λ r. r ≡ result_of (job_in p t b))

        by : (b : ActiveTask) → IsRight now b → (same_job (job_of t a) (job_of t b) ≡ true → b ≡ a) → (d s : Bool) → done ≡ d → same_job (job_of t a) (job_of t b) ≡ s → IsRight new b
        by b r one true true e f = subst (IsRightIn b) (sym (entry_by (job_of t b) true true e f)) (ap (λ c. result_of (job_in p t c)) (sym (one f)))
        by b r one true false e f = subst (IsRightIn b) (sym (entry_by (job_of t b) true false e f)) r
        by b r one false s e f = subst (IsRightIn b) (sym (entry_by (job_of t b) false s e f)) r

    still_other : (j : JobId) → has_job t tasks j ≡ false → entry_in new j ≡ entry_in now j
    still_other j none =
        let apart : same_job (job_of t a) j ≡ false = false_from_ne_true _ (λ h. false≢true (sym none ∙ list_any_at (λ (b : ActiveTask). same_job (job_of t b) j) tasks i a lt (subst (λ b. same_job (job_of t b) j ≡ true) at h))) in
        entry_by j done false refl apart ∙ ap (λ b. cond b (put j) (entry_in now j)) (and_false done)

    abbrev rest : List ActiveTask
    rest = drop (i + 1) tasks

    here : drop i tasks ≡ a ∷ rest
    here = from_place tasks i a lt at

    pub computed_more : {old : List TableEntry} → AreComputedTo tasks i old now → AreComputedTo tasks (i + 1) old new
    computed_more is = record {
      entered = λ j. still_entered j ∙ is.entered j;
      results = λ j. ap (λ b. b || has_job t rest j) (one_result j) ∙ sym (or_assoc (has_result now j) (same_job (job_of t a) j) (has_job t rest j))
          ∙ ap (λ bs. has_result now j || has_job t bs j) (sym here) ∙ is.results j;
      right = λ all. still_right (is.right all);
      others = λ j none. still_other j none ∙ is.others j none;
    }

    -- one task fewer is left, if this one had no result
    pub left_fewer : length (left_of t now (drop i tasks)) ≡ length (left_of t new (drop (i + 1) tasks)) + cond done 1 0
    left_fewer =
        let others = (and_parts (list_all (is_another a) rest) (all_different_releases rest) (subst (λ bs. all_different_releases bs ≡ true) here (different_drop i tasks different))).0 in
        let same : left_of t now rest ≡ left_of t new rest = same_filter _ _ rest (all_pass _ (is_another a) (λ b other.
        ap not (sym (one_result (job_of t b) ∙ ap (λ s. has_result now (job_of t b) || s) (false_from_ne_true _ (λ h. another_job t a b other (same_job_is (job_of t a) (job_of t b) h))) ∙ or_turned (has_result now (job_of t b)) false))) rest others) in
        ap (λ bs. length (left_of t now bs)) here ∙ ap (λ b. length (cond b (a ∷ left_of t now rest) (left_of t now rest))) (sym was) ∙ by done ∙ ap (λ xs. length xs + cond done 1 0) same
      where
        by : (d : Bool) → length (cond d (a ∷ left_of t now rest) (left_of t now rest)) ≡ length (left_of t now rest) + cond d 1 0
        by true = omega arith
        by false = omega arith

-- the task at a place, among those that these represent
pub stands_there : (p : GiottoProgram) (tasks : List Active) (i : ℕ) (a : Active) → a ≡ get_or tasks i a → active_of p a ≡ get_or (map (active_of p) tasks) i (active_of p a)
stands_there p tasks i a at = ap (active_of p) at ∙ sym (get_or-map (active_of p) tasks i a)

-- its entry is still there
pub entered_there : (p : GiottoProgram) (t : ℕ) (tasks items : List Active) (i : ℕ) (a : Active) (old now : List TableEntry) → items ≡ tasks → i < length items → a ≡ get_or items i a
    → AllByRecursion (λ b. is_entered old (job_of t b) ≡ true) (map (active_of p) tasks) → ((j : JobId) → is_entered now j ≡ is_entered old j) → is_entered now (job_of t (active_of p a)) ≡ true
entered_there p t tasks items i a old now are lt at all same =
    same (job_of t (active_of p a))
    ∙ subst (λ b. is_entered old (job_of t (active_of p b)) ≡ true) (sym at)
    (all_mapped_at (λ b. is_entered old (job_of t b) ≡ true) (active_of p) items i a (subst (λ xs. AllByRecursion (λ b. is_entered old (job_of t b) ≡ true) (map (active_of p) xs)) (sym are) all) lt)

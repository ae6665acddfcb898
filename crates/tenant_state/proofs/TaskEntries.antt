-- The entries that tasks get in the table.
use Rattle.std.proofs.Common.{◌≡◌, ℕ, ◌+◌, ◌<◌, ◌≤◌, Bool, true, false, ◌||◌, cond, List, ◌∷◌, length, take, drop, get_or, is_some, Some, None, refl, sym, ap, ◌∙◌, subst, arith}
use Rattle.std.specs.List.{list_all, AllByRecursion}
use Rattle.std.proofs.lemmas.Bool.{and_parts, false_from_ne_true}
use Rattle.std.proofs.lemmas.List.{get_or-take, length-take}
use Rattle.giotto_tasks.proofs.cited.ListLemmas.{all_pass, all_with}
use Rattle.rig_model.specs.declared.jobs.JobId.{JobId}
use Rattle.tenant_jobs.specs.Finished.{TableEntry, entry_in}
use Rattle.tenant_jobs.specs.cited.Finished.{is_entered}
use Rattle.rig_model.specs.Jobs.{same_job, has_job, job_of}
use Rattle.rig_model.proofs.cited.JobNames.{same_job_is}
use Rattle.tenant_state.specs.declared.tenants.Active.{Active}
use Rattle.rig_model.specs.Row.{ActiveTask}
use Rattle.tenant_state.specs.Standing.{is_another, all_different_releases}
use Rattle.tenant_state.proofs.AwaitedTasks.{from_place, another_job, different_drop}

-- none of these tasks has an entry
abbrev pub AreNew : ℕ → List TableEntry → List ActiveTask → Type 0
AreNew t entries tasks = AllByRecursion (λ a. is_entered entries (job_of t a) ≡ false) tasks

module _ (t : ℕ) (tasks : List ActiveTask) (i : ℕ) (a : ActiveTask) (lt : i < length tasks) (at : a ≡ get_or tasks i a) where
  abbrev rest : List ActiveTask
  rest = drop (i + 1) tasks

  here : drop i tasks ≡ a ∷ rest
  here = from_place tasks i a lt at

  -- what is put for one task and then for the rest is what is put for all that are left
  pub put_more : {E : Type 0} (e was now : E) (j : JobId) → now ≡ cond (same_job (job_of t a) j) e was → cond (has_job t (drop (i + 1) tasks) j) e now ≡ cond (has_job t (drop i tasks) j) e was
  put_more e was now j put = ap (cond (has_job t rest j) e) put ∙ both (same_job (job_of t a) j) (has_job t rest j) ∙ ap (λ bs. cond (has_job t bs j) e was) (sym here)
    where
      both : (s h : Bool) → cond h e (cond s e was) ≡ cond (s || h) e was
      both true true = refl
      both true false = refl
      both false h = refl

  pub one_fewer : length (drop i tasks) ≡ length (drop (i + 1) tasks) + 1
  one_fewer = let same = ap length here in omega (arith, same)

  module _ (now : List TableEntry) (new : AreNew t now (drop i tasks)) where
    pub first_new : is_entered now (job_of t a) ≡ false
    first_new = (subst (AreNew t now) here new).0

    pub still_new : (behind : List TableEntry) → all_different_releases tasks ≡ true
        → ((j : JobId) → entry_in behind j ≡ cond (same_job (job_of t a) j) (Some (record { id = j; result = None })) (entry_in now j)) → AreNew t behind (drop (i + 1) tasks)
    still_new behind different entries =
        let others = (and_parts (list_all (is_another a) rest) (all_different_releases rest) (subst (λ bs. all_different_releases bs ≡ true) here (different_drop i tasks different))).0 in
        all_with (λ b. is_another a b ≡ true) (λ b. is_entered now (job_of t b) ≡ false) (λ b. is_entered behind (job_of t b) ≡ false)
        (λ b other none.
        ap is_some (entries (job_of t b) ∙ ap (λ s. cond s (Some (record { id = job_of t b; result = None })) (entry_in now (job_of t b))) (false_from_ne_true _ (λ h. another_job t a b other (same_job_is (job_of t a) (job_of t b) h)))) ∙ none)
        rest (all_pass _ (is_another a) (λ b h. h) rest others) (subst (AreNew t now) here new).1

-- the entry at a place is one of the first
pub among_first : (items first : List Active) (n i : ℕ) (a : Active) → take n items ≡ first → i < n → n ≤ length items → a ≡ get_or items i a → (i < length first) × (a ≡ get_or first i a)
among_first items first n i a are lt few at = (
  omega (arith, length-take n items, ap length are, lt, few),
  at ∙ sym (get_or-take n items i a lt) ∙ ap (λ xs. get_or xs i a) are,
)

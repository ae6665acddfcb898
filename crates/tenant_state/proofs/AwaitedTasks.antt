-- The active tasks by the names of their jobs.
use Rattle.std.proofs.Common.{◌≡◌, ℕ, zero, suc, ◌+◌, ◌<◌, ◌==◌, Bool, true, false, not, ◌&&◌, ◌||◌, cond, List, [], ◌∷◌, map, find, length, drop, get_or, slice_get, option_map, Some, None, refl, sym, ap, ◌∙◌, subst, arith}
use Rattle.std.specs.List.{list_all, AllByRecursion}
use Rattle.std.proofs.lemmas.Bool.{false≢true, and_parts, and_from, eq-eqb, ne_eqb}
use Rattle.std.proofs.lemmas.List.{drop_more}
use Rattle.giotto_tasks.specs.Names.{same_name}
use Rattle.rig_model.specs.declared.jobs.JobId.{JobId}
use Rattle.rig_model.specs.Jobs.{same_job, has_job, job_of}
use Rattle.rig_model.specs.Row.{ActiveTask}
use Rattle.tenant_state.specs.Standing.{is_another, all_different_releases}
use Rattle.rig_model.proofs.cited.JobNames.{same_job_is}
use Rattle.giotto_tasks.proofs.cited.NameLemmas.{same_name_self}
use Rattle.giotto_tasks.proofs.cited.ListLemmas.{all_pass, all_at}

-- what is found from a place on
pub found_here : {X : Type 0} (test : X → Bool) (xs : List X) (i : ℕ) (x : X) → i < length xs → x ≡ get_or xs i x → test x ≡ true → find test (drop i xs) ≡ slice_get xs i
found_here test [] i x lt at h = absurd (omega (arith, lt))
found_here test (y ∷ ys) zero x lt at h = ap (λ b. cond b (Some y) (find test ys)) (ap test (sym at) ∙ h)
found_here test (y ∷ ys) (suc i) x lt at h = found_here test ys i x (omega (arith, lt)) at h

-- the elements from a place on
pub from_place : {X : Type 0} (xs : List X) (i : ℕ) (x : X) → i < length xs → x ≡ get_or xs i x → drop i xs ≡ x ∷ drop (i + 1) xs
from_place xs i x lt at = drop_more xs i x lt ∙ ap (λ y. y ∷ drop (i + 1) xs) (sym at)

-- what is found among the images
pub find-map : {X Y : Type 0} (f : X → Y) (test : Y → Bool) (xs : List X) → find test (map f xs) ≡ option_map f (find (λ x. test (f x)) xs)
find-map f test [] = refl
find-map f test (x ∷ xs) = at_head (test (f x)) (find-map f test xs)
  where
    at_head : (b : Bool) → find test (map f xs) ≡ option_map f (find (λ x. test (f x)) xs)
        → cond b (Some (f x)) (find test (map f xs)) ≡ option_map f (cond b (Some x) (find (λ x. test (f x)) xs))
    at_head true rest = refl
    at_head false rest = rest

-- no task of this tenant has a job of another tenant
module _ (t : ℕ) (j : JobId) (apart : j.tenant ≡ t → ⊥) where
  other_tenants : (a : ActiveTask) → same_job (job_of t a) j ≡ false
  other_tenants a = ap (λ b. (b && (a.release == j.tick)) && same_name a.task j.task) (ne_eqb t j.tenant (λ e. apart (sym e)))

  pub none_found : {X : Type 0} (f : X → ActiveTask) (xs : List X) → find (λ x. same_job (job_of t (f x)) j) xs ≡ None
  none_found f [] = refl
  none_found f (x ∷ xs) = ap (λ b. cond b (Some x) (find (λ x. same_job (job_of t (f x)) j) xs)) (other_tenants (f x)) ∙ none_found f xs

  pub none_has : (tasks : List ActiveTask) → has_job t tasks j ≡ false
  none_has [] = refl
  none_has (a ∷ tasks) = ap (λ b. b || has_job t tasks j) (other_tenants a) ∙ none_has tasks

-- another release has another job
pub another_job : (t : ℕ) (a b : ActiveTask) → is_another a b ≡ true → job_of t a ≡ job_of t b → ⊥
another_job t a b other same =
    let task : a.task ≡ b.task = ap (λ (j : JobId). j.task) same in
    let alike = and_from _ _ (subst (λ x. same_name a.task x ≡ true) task (same_name_self a.task)) (eq-eqb a.release b.release (ap (λ (j : JobId). j.tick) same)) in
    false≢true (ap not (sym alike) ∙ other)

pub all_drop : {X : Type 0} (P : X → Type 0) (k : ℕ) (xs : List X) → AllByRecursion P xs → AllByRecursion P (drop k xs)
all_drop P zero xs all = all
all_drop P (suc k) [] all = tt
all_drop P (suc k) (x ∷ xs) all = all_drop P k xs all.1

pub different_drop : (k : ℕ) (xs : List ActiveTask) → all_different_releases xs ≡ true → all_different_releases (drop k xs) ≡ true
different_drop zero xs h = h
different_drop (suc k) [] h = refl
different_drop (suc k) (x ∷ xs) h = different_drop k xs (and_parts (list_all (is_another x) xs) (all_different_releases xs) h).1

-- if all releases differ, only one has its job
pub alone : (t : ℕ) (tasks : List ActiveTask) (i : ℕ) (a : ActiveTask) → i < length tasks → a ≡ get_or tasks i a → all_different_releases tasks ≡ true
    → AllByRecursion (λ b. same_job (job_of t a) (job_of t b) ≡ true → b ≡ a) tasks
alone t [] i a lt at different = tt
alone t (b ∷ tasks) zero a lt at different =
    let others = (and_parts (list_all (is_another b) tasks) (all_different_releases tasks) different).0 in (
      (λ same. sym at),
      all_pass _ (is_another b) (λ c other same. absurd (another_job t b c other (ap (job_of t) (sym at) ∙ same_job_is (job_of t a) (job_of t c) same))) tasks others,
    )
alone t (b ∷ tasks) (suc i) a lt at different =
    let parts = and_parts (list_all (is_another b) tasks) (all_different_releases tasks) different in
    let within : i < length tasks = omega (arith, lt) in
    let other = subst (λ d. is_another b d ≡ true) (sym at) (all_at (λ d. is_another b d ≡ true) tasks i a within (all_pass _ (is_another b) (λ d h. h) tasks parts.0)) in (
      (λ same. absurd (another_job t b a other (sym (same_job_is (job_of t a) (job_of t b) same)))),
      alone t tasks i a within at parts.1,
    )

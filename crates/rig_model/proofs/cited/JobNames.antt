-- Names of jobs that the test finds equal are equal.
use Rattle.std.proofs.Math.Bool.{and_assoc}
use Rattle.std.proofs.Common.{◌≡◌, true, ◌&&◌, eqb, refl, sym, ℕ, ◌||◌, List, [], ◌∷◌, ap, ◌∙◌}
use Rattle.giotto_tasks.specs.Names.{same_name}
use Rattle.rig_model.specs.declared.jobs.JobId.{JobId}
use Rattle.rig_model.specs.Jobs.{same_job, job_of, is_active}
use Rattle.giotto_tasks.proofs.cited.NameLemmas.{same_name_is, same_name_self}
use Rattle.std.proofs.lemmas.Bool.{and_parts, and_from, eqb-true, eq-eqb}
use Rattle.std.specs.List.{list_any, AllByRecursion}
use Rattle.rig_model.specs.Row.{ActiveTask, Row}
use Rattle.giotto_tasks.proofs.cited.TestLemmas.{or_true}
use Rattle.giotto_tasks.proofs.cited.ListLemmas.{all_map}

pub same_job_is : (i j : JobId) → same_job i j ≡ true → i ≡ j
same_job_is i j e =
    let outer = and_parts (eqb i.tenant j.tenant && eqb i.tick j.tick) (same_name i.task j.task) e in
    let inner = and_parts (eqb i.tenant j.tenant) (eqb i.tick j.tick) outer.0 in
    let tenant = eqb-true i.tenant j.tenant inner.0 in
    let tick = eqb-true i.tick j.tick inner.1 in
    let task = same_name_is i.task j.task outer.1 in
    λ k. record { tenant = tenant k; tick = tick k; task = task k }

pub same_job_self : (j : JobId) → same_job j j ≡ true
same_job_self j =
    and_from _ _ (and_from _ _ (eq-eqb j.tenant j.tenant refl) (eq-eqb j.tick j.tick refl)) (same_name_self j.task)

-- the test as `==` makes it
pub same_job_eq : (i j : JobId) → (eqb i.tenant j.tenant && (eqb i.tick j.tick && same_name i.task j.task)) ≡ same_job i j
same_job_eq i j = sym (and_assoc (eqb i.tenant j.tenant) (eqb i.tick j.tick) (same_name i.task j.task))

-- each active task's own job is active
all_found : (t : ℕ) (xs : List ActiveTask) → AllByRecursion (λ a. list_any (λ (b : ActiveTask). same_job (job_of t b) (job_of t a)) xs ≡ true) xs
all_found t [] = tt
all_found t (x ∷ xs) = (
  ap (λ b. b || list_any (λ (b : ActiveTask). same_job (job_of t b) (job_of t x)) xs) (same_job_self (job_of t x)),
  all_map _ _ xs (λ a e. ap (λ b. same_job (job_of t x) (job_of t a) || b) e ∙ or_true (same_job (job_of t x) (job_of t a))) (all_found t xs),
)

pub own_jobs_active : (t : ℕ) (row : Row) → AllByRecursion (λ a. is_active row (job_of t a) ≡ true) row.active
own_jobs_active t row = all_found t row.active

-- Which jobs active tasks have, by their names.
use Rattle.std.proofs.Common.{◌≡◌, ℕ, ◌≢◌, true, false, ◌&&◌, ◌||◌, eqb, List, [], ◌∷◌, refl, ap, ◌∙◌, subst}
use Rattle.std.specs.List.{AllByRecursion}
use Rattle.std.proofs.lemmas.Bool.{ne_eqb}
use Rattle.giotto_tasks.specs.Names.{same_name}
use Rattle.rig_model.specs.declared.jobs.JobId.{JobId}
use Rattle.rig_model.specs.Jobs.{same_job, job_of, has_job}
use Rattle.rig_model.specs.Row.{ActiveTask}
use Rattle.giotto_tasks.proofs.cited.ListLemmas.{all_map, any_if_all}
use Rattle.rig_model.proofs.cited.JobNames.{same_job_is}

-- no task has the job of another tenant
pub other_tenant : (t : ℕ) (xs : List ActiveTask) (j : JobId) → t ≢ j.tenant → has_job t xs j ≡ false
other_tenant t [] j differ = refl
other_tenant t (x ∷ xs) j differ = ap (λ b. ((b && eqb x.release j.tick) && same_name x.task j.task) || has_job t xs j) (ne_eqb t j.tenant differ) ∙ other_tenant t xs j differ

-- what holds of each task's job holds of the job of a name that one of them has
pub holds_of_job : (P : JobId → Type 0) (t : ℕ) (xs : List ActiveTask) (j : JobId) → AllByRecursion (λ a. P (job_of t a)) xs → has_job t xs j ≡ true → P j
holds_of_job P t xs j all =
    any_if_all (λ (a : ActiveTask). same_job (job_of t a) j) (P j) xs (all_map (λ (a : ActiveTask). P (job_of t a)) (λ (a : ActiveTask). same_job (job_of t a) j ≡ true → P j) xs (λ a p e. subst P (same_job_is (job_of t a) j e) p) all)

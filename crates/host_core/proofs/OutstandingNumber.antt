-- How many jobs are outstanding, by the numbers of entries and results.
use Rattle.std.proofs.Common.{◌≡◌, ℕ, zero, suc, ◌+◌, ◌<◌, ◌≤◌, Bool, true, false, not, ◌||◌, List, [], ◌∷◌, filter, length, ⊎_elim, refl, sym, ap, subst, ◌∙◌, arith}
use Rattle.std.specs.List.{All, AllByRecursion, sum_by}
use Rattle.std.proofs.lemmas.Bool.{cases_lt, false≢true}
use Rattle.std.proofs.lemmas.List.{get_or_past}
use Rattle.std.proofs.lemmas.List.Sums.{sum_by-cons}
use Rattle.giotto_tasks.proofs.cited.ListLemmas.{all_map}
use Rattle.rig_model.specs.declared.jobs.JobId.{JobId}
use Rattle.rig_model.specs.Jobs.{has_job, is_active, job_of, same_job}
use Rattle.rig_model.proofs.cited.JobNames.{own_jobs_active}
use Rattle.tenant_jobs.proofs.cited.Counting.{entries_less_results}
use Rattle.instant_engine.specs.Tenants.{ArePlaced, tenant_at}
use Rattle.instant_engine.specs.cited.Tenants.{is_active_among}
use Rattle.instant_engine.specs.job_table.Finished.{TableEntry, has_result}
use Rattle.instant_engine.specs.job_table.cited.Finished.{is_entered, result_count, NamesDiffer}
use Rattle.instant_engine.specs.state.Standing.{Standing, no_tenant, all_different_releases, outstanding_tasks}
use Rattle.host_core.specs.HostStanding.{outstanding_from}
use Rattle.host_core.specs.inner.HostStanding.{IsAt}
use Rattle.host_core.proofs.cited.Outstanding.{counted_from, number_outstanding, one_fewer_in}

none_passes : {X : Type 0} (test : X → Bool) (xs : List X) → AllByRecursion (λ x. test x ≡ false) xs → filter test xs ≡ []
none_passes test [] none = refl
none_passes test (x ∷ xs) none = rw (none.0) (none_passes test xs none.1)

all_zero : (f : Standing → ℕ) (tenants : List Standing) → ((t : ℕ) → t < length tenants → f (tenant_at tenants t) ≡ 0) → sum_by f tenants ≡ 0
all_zero f [] each = refl
all_zero f (s ∷ rest) each = omega (arith, sum_by-cons f s rest, each 0 (omega arith), all_zero f rest (λ t lt. each (suc t) (omega (arith, lt))))

module _ (n : ℕ) (tenants : List Standing) (known : All (IsAt n) tenants) (placed : ArePlaced tenants) where
  abbrev number : List TableEntry → ℕ
  number entries = length (outstanding_from entries 0 tenants)

  -- no job is outstanding if each active task has its result
  none_left : (entries : List TableEntry) → ((j : JobId) → has_result entries j ≡ is_active_among tenants j) → number entries ≡ 0
  none_left entries all = sym (counted_from entries 0 tenants) ∙ all_zero (number_outstanding entries) tenants none_of
    where
      came : (t : ℕ) → t < length tenants → AllByRecursion (λ a. not (has_result entries (job_of t a)) ≡ false) (tenant_at tenants t).row.active
      came t lt =
          all_map (λ a. is_active (tenant_at tenants t).row (job_of t a) ≡ true) _ (tenant_at tenants t).row.active
          (λ a here. ap not (all (job_of t a) ∙ ap (λ k. has_job k (tenant_at tenants t).row.active (job_of t a)) (placed t lt) ∙ here))
          (own_jobs_active t (tenant_at tenants t).row)

      none_of : (t : ℕ) → t < length tenants → number_outstanding entries (tenant_at tenants t) ≡ 0
      none_of t lt =
          ap length (ap (λ k. filter (λ a. not (has_result entries (job_of k a))) (tenant_at tenants t).row.active) (placed t lt)
          ∙ none_passes (λ a. not (has_result entries (job_of t a))) (tenant_at tenants t).row.active (came t lt))

  -- an active job's tenant is one of the list
  within : (j : JobId) → is_active_among tenants j ≡ true → j.tenant < length tenants
  within j active = ⊎_elim (λ lt. lt) beyond (cases_lt j.tenant (length tenants))
    where
      beyond : length tenants ≤ j.tenant → j.tenant < length tenants
      beyond past = absurd (false≢true (sym (ap (λ (s : Standing). has_job s.tenancy.owner.place s.row.active j) (get_or_past tenants j.tenant no_tenant past)) ∙ active))

  one_less : (before after : List TableEntry) (j : JobId) → is_active_among tenants j ≡ true → has_result before j ≡ false
      → ((k : JobId) → has_result after k ≡ (same_job j k || has_result before k)) → number before ≡ number after + 1
  one_less before after j active none added =
      one_fewer_in tenants j before after (within j active) placed added none active (known j.tenant no_tenant (within j active)).1.known.different

  pub number_is : (entries : List TableEntry) → NamesDiffer entries → ((j : JobId) → is_entered entries j ≡ is_active_among tenants j) → number entries + result_count entries ≡ length entries
  number_is entries differ entered = entries_less_results number (is_active_among tenants) none_left one_less entries differ entered

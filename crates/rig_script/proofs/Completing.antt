-- Completing outstanding jobs, of all tenants and of one.
use Rattle.std.proofs.Common.{◌≡◌, ℕ, ◌<◌, true, ◌||◌, not, List, [], ◌∷◌, ◌++◌, length, map, reverse, ap, ◌∙◌, subst, arith}
use Rattle.std.specs.List.{enumerate_from, AllByRecursion}
use Rattle.std.proofs.lemmas.Bool.{and_from}
use Rattle.rig_model.specs.declared.events.Event.{Event}
use Rattle.rig_model.specs.declared.events.Event.TheVariants.{Done}
use Rattle.rig_model.specs.declared.config.TenantConfig.{TenantConfig}
use Rattle.rig_model.specs.declared.jobs.JobId.{JobId}
use Rattle.rig_model.specs.Completions.{has_completion}
use Rattle.rig_model.specs.Host.{host_after}
use Rattle.rig_model.specs.HostState.{row_at, is_counted}
use Rattle.host_core.specs.engine.Tenants.{tenant_at}
use Rattle.host_core.specs.HostStanding.{HostStanding, Stands, outstanding_jobs, outstanding_of}
use Rattle.rig_model.specs.Legal.{was_released, is_legal}
use Rattle.rig_model.specs.Base.{Setting}
use Rattle.rig_model.specs.Views.{row_of}
use Rattle.rig_model.specs.Jobs.{job_of, is_active}
use Rattle.giotto_tasks.proofs.cited.ListLemmas.{all_map, all_flat, all_filtered}
use Rattle.giotto_tasks.proofs.cited.TestLemmas.{or_true}
use Rattle.rig_model.proofs.cited.JobNames.{own_jobs_active}
use Rattle.rig_script.specs.cited.HostAnswers.{IsHostAfter}
use Rattle.rig_model.specs.Script.{outstanding_at, outstanding_after}
use Rattle.host_core.proofs.of_laws.Places.{first_done}
use Rattle.host_core.proofs.cited.Outstanding.{awaited_at, code_awaits}
use Rattle.rig_script.proofs.Outstanding.{same_outstanding, same_outstanding_at}

module _ (setting : Setting) where
  released : (past : List Event) (j : JobId) → is_active (row_of setting past j.tenant) j ≡ true → was_released setting past j ≡ true
  released [] j e = e
  released (e ∷ past) j h = ap (λ b. b || was_released setting past j) h

  -- each outstanding job is active: each job of one tenant, and so each job of all
  active_at : (past : List Event) (t : ℕ) → AllByRecursion (λ j. is_active (row_of setting past j.tenant) j ≡ true) (outstanding_at setting past t)
  active_at past t =
      all_filtered (λ j. is_active (row_of setting past j.tenant) j ≡ true) (job_of t) (λ j. not (has_completion setting past j)) (row_of setting past t).active (own_jobs_active t (row_of setting past t))

  outstanding_active : (past : List Event) → AllByRecursion (λ j. is_active (row_of setting past j.tenant) j ≡ true) (outstanding_after setting past)
  outstanding_active past =
      all_flat (λ j. is_active (row_of setting past j.tenant) j ≡ true) (λ (place : ℕ × TenantConfig). outstanding_at setting past place.0) (enumerate_from 0 setting.config.tenants)
      (λ place. active_at past place.0)

  -- completions of released jobs are legal
  all_legal : (js : List JobId) (past : List Event) → AllByRecursion (λ j. was_released setting past j ≡ true) js → is_legal setting past ≡ true → is_legal setting (reverse (map Done js) ++ past) ≡ true
  all_legal [] past all legal = legal
  all_legal (j ∷ js) past all legal =
      ap (is_legal setting) (first_done j js past)
      ∙ all_legal js (Done j ∷ past) (all_map (λ i. was_released setting past i ≡ true) (λ i. was_released setting (Done j ∷ past) i ≡ true) js (λ i h. ap (λ b. is_active (row_of setting past i.tenant) i || b) h ∙ or_true (is_active (row_of setting past i.tenant) i)) all.1)
      (and_from (was_released setting past j) (is_legal setting past) all.0 legal)

  -- the names that the host returns are those of the definitions
  pub names_are : (past : List Event) (host : HostStanding) → IsHostAfter setting host past → outstanding_jobs host ≡ outstanding_after setting past
  names_are past host h = code_awaits setting host (host_after setting past) h.stands h.stands.placed ∙ same_outstanding setting h.base past h.legal

  pub names_at : (past : List Event) (host : HostStanding) (t : ℕ) → t < length setting.config.tenants → IsHostAfter setting host past → outstanding_of host t ≡ outstanding_at setting past t
  names_at past host t lt h =
      let state = host_after setting past in
      awaited_at setting (tenant_at host.tenants t) host.entries t (row_at state t) (is_counted state) (h.stands.each t lt) (h.stands.placed t (omega (arith, lt, h.stands.as_many))) h.stands.results ∙ same_outstanding_at setting h.base past h.legal t lt

  -- these jobs are completed
  completed : (past : List Event) (host later : HostStanding) (jobs : List JobId) → AllByRecursion (λ j. is_active (row_of setting past j.tenant) j ≡ true) jobs → IsHostAfter setting host past
      → Stands setting later (host_after setting (reverse (map Done jobs) ++ past)) → IsHostAfter setting later (reverse (map Done jobs) ++ past)
  completed past host later jobs active h stands = record {
    base = h.base;
    legal = all_legal jobs past (all_map (λ j. is_active (row_of setting past j.tenant) j ≡ true) (λ j. was_released setting past j ≡ true) jobs (released past) active) h.legal;
    stands = stands;
  }

  -- all of them are completed
  pub all_completed : (past : List Event) (host later : HostStanding) → IsHostAfter setting host past → Stands setting later (host_after setting (reverse (map Done (outstanding_jobs host)) ++ past))
      → IsHostAfter setting later (reverse (map Done (outstanding_after setting past)) ++ past)
  all_completed past host later h stands =
      completed past host later (outstanding_after setting past) (outstanding_active past) h
      (subst (λ js. Stands setting later (host_after setting (reverse (map Done js) ++ past))) (names_are past host h) stands)

  -- one tenant's are completed
  pub completed_at : (past : List Event) (host later : HostStanding) (t : ℕ) → t < length setting.config.tenants → IsHostAfter setting host past
      → Stands setting later (host_after setting (reverse (map Done (outstanding_of host t)) ++ past)) → IsHostAfter setting later (reverse (map Done (outstanding_at setting past t)) ++ past)
  completed_at past host later t lt h stands =
      completed past host later (outstanding_at setting past t) (active_at past t) h
      (subst (λ js. Stands setting later (host_after setting (reverse (map Done js) ++ past))) (names_at past host t lt h) stands)

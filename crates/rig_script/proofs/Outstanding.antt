-- The jobs that a host awaits are those of the definitions.
use Rattle.std.proofs.Common.{◌≡◌, ℕ, ◌<◌, Bool, true, false, not, ◌&&◌, List, length, map, filter, refl, ap, ◌∙◌, arith}
use Rattle.std.proofs.lemmas.Bool.Decides.{nat_tests}
use Rattle.rig_model.specs.declared.events.Event.{Event}
use Rattle.rig_model.specs.declared.config.TenantConfig.{TenantConfig}
use Rattle.rig_model.specs.config.Roster.{is_tenant}
use Rattle.rig_model.specs.Base.{IsBase, Setting}
use Rattle.rig_model.specs.Completions.{has_completion}
use Rattle.rig_model.specs.Host.{host_after}
use Rattle.rig_model.specs.HostState.{row_at, is_counted}
use Rattle.rig_model.specs.Legal.{is_legal}
use Rattle.rig_model.specs.Views.{row_of}
use Rattle.rig_model.specs.Jobs.{job_of, is_active}
use Rattle.rig_model.specs.Row.{Row}
use Rattle.giotto_tasks.proofs.cited.ListLemmas.{all_map, all_mapped, same_filter}
use Rattle.host_core.proofs.of_laws.Places.{nobody}
use Rattle.host_core.proofs.of_laws.AloneAlong.{same_rows, same_awaits}
use Rattle.host_core.proofs.cited.Outstanding.{jobs_at, all_jobs, places_from_start}
use Rattle.rig_model.proofs.cited.JobNames.{own_jobs_active}
use Rattle.rig_model.specs.Script.{outstanding_at, outstanding_after}

module _ (setting : Setting) where
  tenant_is : (t : ℕ) → t < length setting.config.tenants → is_tenant setting.config t ≡ true
  tenant_is t lt = grind (arith, nat_tests)

  where_active : (a b c d : Bool) → a ≡ true → b ≡ true → (a && c) ≡ (b && d) → c ≡ d
  where_active true true c d e f h = h
  where_active false b c d e f h = absurd (cc)
  where_active true false c d e f h = absurd (cc)

  -- one tenant's
  pub same_outstanding_at : IsBase setting.config setting.base → (past : List Event) → is_legal setting past ≡ true → (t : ℕ) → t < length setting.config.tenants
      → jobs_at setting (host_after setting past) t ≡ outstanding_at setting past t
  same_outstanding_at base past legal t lt =
      let state = host_after setting past in
      let is = tenant_is t lt in
      let rows = same_rows setting base past t legal is in
      let row = row_of setting past t in
      ap (λ (r : Row). filter (λ j. not (is_counted state j)) (map (job_of t) r.active)) rows
      ∙ same_filter (λ j. not (is_counted state j)) (λ j. not (has_completion setting past j)) (map (job_of t) row.active)
      (all_mapped (λ j. not (is_counted state j) ≡ not (has_completion setting past j)) (job_of t) row.active
      (all_map (λ a. is_active row (job_of t a) ≡ true) (λ a. not (is_counted state (job_of t a)) ≡ not (has_completion setting past (job_of t a))) row.active
      (λ a active. where_active (is_active (row_at state t) (job_of t a)) (is_active row (job_of t a)) (not (is_counted state (job_of t a))) (not (has_completion setting past (job_of t a)))
      (ap (λ r. is_active r (job_of t a)) rows ∙ active) active (same_awaits setting base past (job_of t a) legal is))
      (own_jobs_active t row)))

  pub same_outstanding : IsBase setting.config setting.base → (past : List Event) → is_legal setting past ≡ true → all_jobs setting (host_after setting past) ≡ outstanding_after setting past
  same_outstanding base past legal =
      places_from_start (λ (place : ℕ × TenantConfig). jobs_at setting (host_after setting past) place.0) (λ (place : ℕ × TenantConfig). outstanding_at setting past place.0) nobody nobody setting.config.tenants
      setting.config.tenants refl (same_outstanding_at base past legal)

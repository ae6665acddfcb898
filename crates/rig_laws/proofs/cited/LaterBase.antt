-- The host after a legal list is a base again, and so is a new host.
use Rattle.std.proofs.Common.{◌≡◌, ℕ, ◌<◌, ⊎_elim, Bool, true, false, cond, List, [], ◌∷◌, length, map, filter, refl, sym, ap, ◌∙◌, subst, arith}
use Rattle.std.specs.List.{list_any, AllByRecursion}
use Rattle.std.proofs.lemmas.Bool.{cases_lt, and_parts}
use Rattle.std.proofs.lemmas.List.{length-map, get_or-map}
use Rattle.std.proofs.Math.ListN.{get_or-eq_default}
use Rattle.rig_model.specs.declared.config.TenantConfig.{TenantConfig}
use Rattle.rig_model.specs.declared.jobs.JobId.{JobId}
use Rattle.rig_model.specs.declared.events.Event.{Event}
use Rattle.rig_model.specs.declared.events.Event.TheVariants.{Own, Tick, Done}
use Rattle.rig_model.specs.Base.{IsBase, new_base, Setting}
use Rattle.rig_model.specs.Host.{host_after}
use Rattle.rig_model.specs.HostState.{HostState, row_at, is_counted, is_awaited}
use Rattle.rig_model.specs.Legal.{next_tick, is_legal}
use Rattle.rig_model.specs.Jobs.{same_job, is_active}
use Rattle.rig_model.specs.Row.{ActiveTask, Row, empty_row}
use Rattle.rig_laws.proofs.Alone.{Agrees}
use Rattle.rig_laws.proofs.cited.AloneAlong.{agrees_along}
use Rattle.rig_laws.proofs.cited.AloneAlong.{same_clock}
use Rattle.rig_laws.proofs.Histories.{releases}
use Rattle.rig_laws.proofs.cited.Places.{nobody}
use Rattle.rig_model.proofs.cited.JobNames.{same_job_is}
use Rattle.giotto_tasks.proofs.cited.TestLemmas.{either}
use Rattle.rig_model.specs.config.Roster.{Rig}

-- a name among the jobs that pass a test passes it
passes : (test : JobId → Bool) (j : JobId) (js : List JobId) → list_any (λ i. same_job i j) (filter test js) ≡ true → test j ≡ true
passes test j [] e = absurd (cc)
passes test j (i ∷ js) e = by (test i) refl e (passes test j js)
  where
    by : (b : Bool) → test i ≡ b → list_any (λ k. same_job k j) (cond b (i ∷ filter test js) (filter test js)) ≡ true
        → (list_any (λ k. same_job k j) (filter test js) ≡ true → test j ≡ true) → test j ≡ true
    by true is f rest = either (same_job i j) (list_any (λ k. same_job k j) (filter test js)) _ f (λ here. ap test (sym (same_job_is i j here)) ∙ is) rest
    by false is f rest = rest f

module _ (setting : Setting) (base : IsBase setting.config setting.base) where
  counted_is_active : (past : List Event) (j : JobId) → is_counted (host_after setting past) j ≡ true → is_active (row_at (host_after setting past) j.tenant) j ≡ true
  counted_is_active [] j e = base.active j e
  counted_is_active (Own u c ∷ past) j e = passes _ j (host_after setting past).counted e
  counted_is_active (Tick frame ∷ past) j e = passes _ j (host_after setting past).counted e
  counted_is_active (Done i ∷ past) j e = by (is_awaited host i) refl e (counted_is_active past j)
    where
      host : HostState
      host = host_after setting past

      by : (b : Bool) → is_awaited host i ≡ b → is_counted (cond b (record host { counted = i ∷ host.counted }) host) j ≡ true
          → (is_counted host j ≡ true → is_active (row_at host j.tenant) j ≡ true) → is_active (row_at (cond b (record host { counted = i ∷ host.counted }) host) j.tenant) j ≡ true
      by true is f rest =
          either (same_job i j) (is_counted host j) _ f
          (λ here. let same = same_job_is i j here in subst (λ (k : JobId). is_active (row_at host k.tenant) k ≡ true) same (and_parts (is_active (row_at host i.tenant) i) _ is).0)
          rest
      by false is f rest = rest f

  pub later_is_base : (past : List Event) → is_legal setting past ≡ true → IsBase setting.config (host_after setting past)
  later_is_base past legal = record {
    as_many = agrees.long;
    counts = λ t lt. ap (λ (r : Row). r.next_tick) (agrees.rows t lt) ∙ ((releases setting base past t).at ∙ sym (same_clock setting past));
    early = λ t lt.
        subst (λ n. AllByRecursion (λ (a : ActiveTask). a.release < n) (row_at (host_after setting past) t).active) (sym (same_clock setting past))
        (subst (λ (r : Row). AllByRecursion (λ (a : ActiveTask). a.release < next_tick setting past) r.active) (sym (agrees.rows t lt)) (releases setting base past t).each);
    active = counted_is_active past;
  }
    where
      agrees : Agrees setting (host_after setting past) past
      agrees = agrees_along setting base past legal

module _ (config : Rig) (first_tick : ℕ) where
  -- each row of a new host is empty, whatever its place
  pub new_row : (t : ℕ) → row_at (new_base config first_tick) t ≡ empty_row first_tick
  new_row t = ⊎_elim
      (λ lt. get_or-map (λ (x : TenantConfig). empty_row first_tick) config.tenants t nobody (empty_row first_tick) lt)
      (λ le. get_or-eq_default (map (λ (x : TenantConfig). empty_row first_tick) config.tenants) (empty_row first_tick) (omega (arith, length-map config.tenants (λ (x : TenantConfig). empty_row first_tick))))
      (cases_lt t (length config.tenants))

  pub new_is_base : IsBase config (new_base config first_tick)
  new_is_base = record {
    as_many = length-map config.tenants _;
    counts = λ t lt. ap (λ (r : Row). r.next_tick) (new_row t);
    early = λ t lt. subst (λ (r : Row). AllByRecursion (λ (a : ActiveTask). a.release < first_tick) r.active) (sym (new_row t)) tt;
    active = λ j e. absurd (cc);
  }

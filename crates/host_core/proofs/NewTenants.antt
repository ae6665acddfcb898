-- The tenants of a new host, made one by one.
use Rattle.std.proofs.Common.{◌≡◌, ◌∙◌, ⊎_elim, false, ℕ, ◌+◌, ◌<◌, ◌≤◌, List, [], ◌∷◌, ◌++◌, length, map, get_or, take, refl, sym, ap, subst, arith}
use Rattle.std.specs.List.{enumerate_from}
use Rattle.std.proofs.Math.ListN.{get_or-eq_default}
use Rattle.std.proofs.lemmas.Bool.{cases_lt}
use Rattle.std.proofs.lemmas.List.{take_more, take_all}
use Rattle.rig_model.specs.declared.config.TenantConfig.{TenantConfig}
use Rattle.rig_model.specs.config.Roster.{Rig}
use Rattle.host_core.specs.inner.HostStanding.{IsAt, IsWhole}
use Rattle.instant_engine.specs.cited.Tenants.{is_active_among}
use Rattle.rig_model.specs.declared.jobs.JobId.{JobId}
use Rattle.rig_model.specs.Jobs.{has_job}
use Rattle.instant_engine.specs.state.Standing.{Standing, no_tenant}
use Rattle.instant_engine.specs.state.cited.Standing.{HasItsResults}
use Rattle.host_core.proofs.NewHost.{at_place, as_many_places, begun}
use Rattle.instant_engine.proofs.of_laws.Places.{nobody}

module _ (n : ℕ) (config : Rig) where
  abbrev roster : List TenantConfig
  roster = config.tenants

  -- the empty tenant of each place
  abbrev pub new_tenants : List Standing
  new_tenants = map (begun config n) (enumerate_from 0 roster)

  as_many_new : length new_tenants ≡ length roster
  as_many_new = as_many_places (begun config n) roster

  new_at : (t : ℕ) (d : Standing) → t < length roster → get_or new_tenants t d ≡ begun config n (t, get_or roster t nobody)
  new_at t d lt = at_place (begun config n) roster t d lt

  -- one more tenant
  pub new_more : (i : ℕ) (tenants more : List Standing) (s : Standing) → i < length roster → tenants ≡ take i new_tenants → more ≡ tenants ++ s ∷ [] → s ≡ begun config n (i, get_or roster i nobody)
      → more ≡ take (i + 1) new_tenants
  new_more i tenants more s lt before added is =
      added
      ∙ ap (λ xs. xs ++ s ∷ []) before
      ∙ ap (λ x. take i new_tenants ++ x ∷ []) (is ∙ sym (new_at i s lt))
      ∙ sym (take_more new_tenants i s (omega (arith, as_many_new)))

  -- at the loop's end
  pub new_all : (i : ℕ) (tenants : List Standing) → length roster ≤ i → tenants ≡ take i new_tenants → tenants ≡ new_tenants
  new_all i tenants le before = before ∙ take_all i new_tenants (omega (arith, as_many_new))

  -- no task is active
  none_active : (j : JobId) → is_active_among new_tenants j ≡ false
  none_active j = ⊎_elim
      (λ lt. ap (λ (s : Standing). has_job s.tenancy.owner.place s.row.active j) (new_at j.tenant no_tenant lt))
      (λ le. ap (λ (s : Standing). has_job s.tenancy.owner.place s.row.active j) (get_or-eq_default new_tenants no_tenant (omega (arith, le, as_many_new))))
      (cases_lt j.tenant (length roster))

  pub new_whole : IsWhole config n new_tenants []
  new_whole = record {
    as_many = as_many_new;
    known = λ t d lt. subst (IsAt n) (sym (new_at t d (omega (arith, lt, as_many_new)))) (
      refl,
      record {
        known = record {
          few_records = take_all _ [] (omega arith);
          tasks = λ none. refl;
          rests = λ none. refl;
          early = tt;
          different = refl;
        };
        binds = omega arith;
        rest = refl;
      },
    );
    placed = λ t lt. ap (λ (s : Standing). s.tenancy.owner.place) (new_at t no_tenant (omega (arith, lt, as_many_new)));
    tenancies = λ t lt. ap (λ (s : Standing). s.tenancy) (new_at t no_tenant (omega (arith, lt, as_many_new)));
    table = record {
      entered = λ j. sym (none_active j);
      results = λ t d lt. subst (λ (s : Standing). HasItsResults s []) (sym (new_at t d (omega (arith, lt, as_many_new)))) (λ p is. tt);
    };
  }

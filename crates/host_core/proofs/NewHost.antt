-- A new host represents the empty row of each tenant.
use Rattle.std.proofs.Common.{◌≡◌, ℕ, ◌<◌, List, [], length, map, get_or, zero-add, refl, sym, ap, ◌∙◌, subst, arith}
use Rattle.std.specs.List.{enumerate_from}
use Rattle.std.proofs.lemmas.List.{length-map, get_or-map, take_all}
use Rattle.std.proofs.lemmas.List.FromFn.{length-enumerate_from, get_or-enumerate_from}
use Rattle.rig_model.specs.declared.config.TenantConfig.{TenantConfig}
use Rattle.rig_model.specs.Base.{new_base, Setting}
use Rattle.instant_engine.specs.Tenants.{tenant_at}
use Rattle.rig_model.specs.HostState.{row_at}
use Rattle.host_core.specs.HostStanding.{Stands, new_host, new_tenant}
use Rattle.rig_model.specs.config.Roster.{Rig}
use Rattle.rig_model.specs.Row.{Row, empty_row}
use Rattle.instant_engine.specs.state.Standing.{Standing, StandsFor, at_rest, no_tenant}
use Rattle.instant_engine.proofs.of_laws.Places.{nobody}

-- what is made for each place of a roster
pub at_place : {B : Type 0} (f : ℕ × TenantConfig → B) (tenants : List TenantConfig) (t : ℕ) (d : B) → t < length tenants
    → get_or (map f (enumerate_from 0 tenants)) t d ≡ f (t, get_or tenants t nobody)
at_place f tenants t d lt =
    get_or-map f (enumerate_from 0 tenants) t (0, nobody) d (omega (arith, length-enumerate_from 0 tenants))
    ∙ ap f (get_or-enumerate_from 0 tenants t (0, nobody) lt)
    ∙ ap (λ k. f (k, get_or tenants t nobody)) (zero-add t)

pub as_many_places : {B : Type 0} (f : ℕ × TenantConfig → B) (tenants : List TenantConfig) → length (map f (enumerate_from 0 tenants)) ≡ length tenants
as_many_places f tenants = length-map (enumerate_from 0 tenants) f ∙ length-enumerate_from 0 tenants

-- the empty tenant of a place of the roster
abbrev pub begun : Rig → ℕ → ℕ × TenantConfig → Standing
begun config n place = new_tenant config n place.0

module _ (setting : Setting) (n : ℕ) where
  abbrev its : ℕ → ℕ × TenantConfig
  its t = (t, get_or setting.config.tenants t nobody)

  standing_empty : (t : ℕ) → t < length setting.config.tenants → tenant_at (new_host setting.config n).tenants t ≡ at_rest (begun setting.config n (its t))
  standing_empty t lt = at_place (λ place. at_rest (begun setting.config n place)) setting.config.tenants t no_tenant lt

  row_empty : (t : ℕ) → t < length setting.config.tenants → row_at (new_base setting.config n) t ≡ empty_row n
  row_empty t lt = get_or-map (λ (x : TenantConfig). empty_row n) setting.config.tenants t nobody (empty_row n) lt

  stands_empty : (t : ℕ) → StandsFor (at_rest (begun setting.config n (its t))) (empty_row n)
  stands_empty t = λ k. record (empty_row n) { records = sym (take_all (at_rest (begun setting.config n (its t))).tenancy.budgets.trace [] (omega arith)) k }

  pub new_stands : Stands setting (new_host setting.config n) (new_base setting.config n)
  new_stands = record {
    same_config = refl;
    same_clock = refl;
    as_many = as_many_places (λ place. at_rest (begun setting.config n place)) setting.config.tenants;
    all_rows = length-map setting.config.tenants _;
    placed = λ t lt. ap (λ (s : Standing). s.tenancy.owner.place) (standing_empty t (omega (arith, lt, as_many_places (λ place. at_rest (begun setting.config n place)) setting.config.tenants)));
    each = λ t lt.
        subst (λ (s : Standing). StandsFor s (row_at (new_base setting.config n) t)) (sym (standing_empty t lt))
        (subst (λ (r : Row). StandsFor (at_rest (begun setting.config n (its t))) r) (sym (row_empty t lt)) (stands_empty t));
    counts = λ t lt. ap (λ (r : Row). r.next_tick) (row_empty t lt);
    results = λ j. refl;
  }

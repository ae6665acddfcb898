-- Sources of a tenant of the roster are in the roster.
use Rattle.std.proofs.Common.{◌≡◌, ℕ, ◌<◌, Bool, true, false, ◌||◌, eqb, ℤ, List, [], ◌∷◌, length, Option, Some, None, refl, sym, ap, ◌∙◌, arith}
use Rattle.std.specs.List.{cons_option, filter_map, list_any}
use Rattle.std.proofs.lemmas.Bool.Decides.{nat_tests}
use Rattle.std.proofs.lemmas.List.{length-map}
use Rattle.std.proofs.lemmas.List.Quantifiers.{position-Some}
use Rattle.giotto_tasks.proofs.cited.TestLemmas.{either}
use Rattle.giotto_tasks.specs.Names.{same_name}
use Rattle.rig_laws.proofs.cited.TwoWorlds.{same_place}
use Rattle.rig_model.specs.Base.{Setting}
use Rattle.rig_model.specs.Sources.{is_source, suppliers_of}
use Rattle.rig_model.specs.Tenancies.{roster_of}
use Rattle.rig_model.specs.Views.{row_of}
use Rattle.rig_model.specs.config.Roster.{is_tenant}
use Rattle.rig_model.specs.declared.config.TenantConfig.{TenantConfig}
use Rattle.rig_model.specs.declared.events.Event.{Event}
use Rattle.rig_model.specs.declared.events.Event.TheVariants.{Own, Tick, Done}
use Rattle.rig_model.specs.declared.grants.rows.Bind.{Bind}
use Rattle.rig_model.specs.grants.Grants.{place_in}
use Rattle.tenant_sources.specs.Links.{is_source_of}

-- what holds of a tenant for which a test holds among those that the binds name
along : (setting : Setting) (q : ℕ → Bool) (C : Type 0) (binds : List Bind) → ((v : ℕ) → is_tenant setting.config v ≡ true → q v ≡ true → C)
    → list_any q (filter_map (λ (b : Bind). place_in (roster_of setting.config) b.tenant) binds) ≡ true → C
along setting q C [] each e = absurd (cc)
along setting q C (b ∷ binds) each e = by (place_in (roster_of setting.config) b.tenant) refl (along setting q C binds each) e
  where
    named : List ℕ
    named = filter_map (λ (b : Bind). place_in (roster_of setting.config) b.tenant) binds

    by : (o : Option ℕ) → place_in (roster_of setting.config) b.tenant ≡ o → (list_any q named ≡ true → C) → list_any q (cons_option o named) ≡ true → C
    by None at rest e = rest e
    by (Some v) at rest e =
        let within = (position-Some (λ n. same_name n b.tenant) (roster_of setting.config) v [] at).0 in
        let long = length-map setting.config.tenants (λ (tenant : TenantConfig). tenant.name) in
        let tenant : is_tenant setting.config v ≡ true = let lt : v < length setting.config.tenants = omega (arith, within, long) in grind (arith, nat_tests) in
        either (q v) (list_any q named) C e (λ h. each v tenant h) rest

module _ (setting : Setting)
    (forward : (past : List Event) (frame : List ℤ) (t u : ℕ)
    → is_source_of setting (Tick frame ∷ past) t u ≡ (is_source_of setting past t u || list_any (λ v. is_source_of setting past v u) (suppliers_of setting (row_of setting past t)))) where
  pub source_within : (past : List Event) (t u : ℕ) → is_tenant setting.config t ≡ true → is_source_of setting past t u ≡ true → is_tenant setting.config u ≡ true
  source_within [] t u tenant is = either (eqb t u) false (is_tenant setting.config u ≡ true) is (λ h. ap (is_tenant setting.config) (sym (same_place t u h)) ∙ tenant) (λ h. absurd (cc))
  source_within (Own v c ∷ past) t u tenant is = source_within past t u tenant is
  source_within (Done j ∷ past) t u tenant is = source_within past t u tenant is
  source_within (Tick frame ∷ past) t u tenant is =
      either (is_source_of setting past t u) (list_any (λ v. is_source_of setting past v u) (suppliers_of setting (row_of setting past t))) (is_tenant setting.config u ≡ true)
      (sym (forward past frame t u) ∙ is)
      (source_within past t u tenant)
      (along setting (λ v. is_source_of setting past v u) (is_tenant setting.config u ≡ true) (row_of setting past t).binds (λ v among h. source_within past v u among h))

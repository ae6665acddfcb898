-- Whom a report names, by its table of marks or its table of links.
use Rattle.std.proofs.Common.{◌≡◌, ◌≢◌, ◌<◌, ℕ, Bool, true, false, not, cond, ◌&&◌, ◌||◌, ◌==◌, nat_lt, List, length, Option, Some, None, is_some, refl, sym, ap, ◌∙◌, arith}
use Rattle.std.proofs.lemmas.Bool.Decides.{nat_tests}
use Rattle.plant_couplings.specs.declared.couplings.Coupling.{Coupling}
use Rattle.plant_couplings.specs.declared.couplings.Plant.{Plant}
use Rattle.rig_model.specs.Base.{Setting}
use Rattle.rig_model.specs.config.Roster.{is_tenant}
use Rattle.rig_model.specs.declared.events.Event.{Event}
use Rattle.rig_retests.specs.Named.{AreNamed, IsNamedRight, is_named_by}
use Rattle.rig_retests.specs.Reached.{IsReachTable, is_marked_in}
use Rattle.tenant_sources.specs.Links.{IsLinkTable, Links, first_link, is_source_of, link_in, has_source}
use Rattle.tenant_sources.specs.declared.tables.Link.{Link}

module _ (setting : Setting) (plant : Plant) (past : List Event) (rows : List (List Bool)) (links : Links) (table : IsLinkTable setting past links) (reach : IsReachTable plant rows setting past)
    (linked : (t u : ℕ) → is_source_of setting past t u ≡ (t == u || is_some (first_link setting past t u))) where
  within : (t : ℕ) → is_tenant setting.config t ≡ true → t < length setting.config.tenants
  within t is = grind (arith, nat_tests)

  by_links : (t s : ℕ) → is_tenant setting.config t ≡ true → is_tenant setting.config s ≡ true → has_source links t s ≡ is_source_of setting past t s
  by_links t s tenant other = ap (λ (o : Option Link). t == s || is_some o) (table.each t s (within t tenant) (within s other)) ∙ sym (linked t s)

  differ : (t s : ℕ) → t ≢ s → (t == s) ≡ false
  differ t s other = grind (arith, nat_tests)

  pub all_named : AreNamed setting plant past (is_named_by plant rows links)
  all_named t s tenant other apart = by plant.couplings refl
    where
      named : Option (List Coupling) → Bool
      named o = cond (is_some o) (is_marked_in rows t s) (not (t == s) && has_source links t s)

      by : (o : Option (List Coupling)) → plant.couplings ≡ o → IsNamedRight setting plant past (is_named_by plant rows links) t s o
      by None e = ap named e ∙ (ap (λ b. not b && has_source links t s) (differ t s apart) ∙ by_links t s tenant other)
      by (Some couplings) e = (λ h. (reach t tenant s).0 (sym (ap named e) ∙ h), λ h. ap named e ∙ (reach t tenant s).1 h)

-- The entries of ended tasks leave the table, tenant by tenant.
use Rattle.std.proofs.Common.{◌≡◌, ℕ, ◌+◌, ◌<◌, ◌≤◌, ◌≢◌, ⊎_elim, Bool, true, false, cond, not, ◌&&◌, List, length, map, Option, Some, None, refl, sym, ap, ◌∙◌, arith}
use Rattle.std.specs.Prelude.{is_some}
use Rattle.std.proofs.Math.ListN as lists
use Rattle.std.proofs.lemmas.Bool.{cases_eq, cases_lt}
use Rattle.std.proofs.lemmas.List.{ext_get_or, length-map}
use Rattle.rig_model.specs.declared.jobs.JobId.{JobId}
use Rattle.tenant_state.specs.job_table.Finished.{TableEntry, entry_in}
use Rattle.rig_model.specs.Jobs.{has_job}
use Rattle.tenant_state.specs.Standing.{Standing, no_tenant}
use Rattle.tenant_state.specs.cited.Standing.{without_ended}
use Rattle.instant_engine.specs.cited.Instants.{AreStepped}
use Rattle.instant_engine.specs.Tenants.{tenant_at}
use Rattle.instant_engine.specs.cited.Tenants.{is_active_among}
use Rattle.instant_engine.specs.cited.Halves.{AreToldEnded, is_ended_among}
use Rattle.instant_engine.proofs.Named.{other_tenant}

-- the entries of what ended in the first `i` tenants have left the table
pub record AreLeftTo (i : ℕ) (tenants : List Standing) (before now : List TableEntry) : Type 0 where
  pub left : (j : JobId) → j.tenant < i → entry_in now j ≡ cond (is_ended_among tenants j) None (entry_in before j)
  pub others : (j : JobId) → i ≤ j.tenant → entry_in now j ≡ entry_in before j

pub left_none : (tenants : List Standing) (entries : List TableEntry) → AreLeftTo 0 tenants entries entries
left_none tenants entries = record { left = λ j lt. absurd (omega arith); others = λ j le. refl }

pub left_more : (i : ℕ) (tenants : List Standing) (x : Standing) (before now next : List TableEntry) → x ≡ tenant_at tenants i → x.tenancy.owner.place ≡ i
    → ((j : JobId) → entry_in next j ≡ cond (has_job x.tenancy.owner.place x.ready.ended j) None (entry_in now j)) → AreLeftTo i tenants before now → AreLeftTo (i + 1) tenants before next
left_more i tenants x before now next here own leaves so_far = record {
  left = λ j lt. ⊎_elim
      (λ (e : j.tenant ≡ i).
      leaves j
      ∙ ap (λ b. cond b None (entry_in now j)) (ap (λ (s : Standing). has_job s.tenancy.owner.place s.ready.ended j) (here ∙ ap (tenant_at tenants) (sym e)))
      ∙ ap (cond (is_ended_among tenants j) None) (so_far.others j (omega (arith, e))))
      (λ (differ : j.tenant ≢ i). other j differ ∙ so_far.left j (omega arith))
      (cases_eq j.tenant i);
  others = λ j le. other j (λ e. absurd (omega (arith, e))) ∙ so_far.others j (omega arith);
}
  where
    other : (j : JobId) → j.tenant ≢ i → entry_in next j ≡ entry_in now j
    other j differ = leaves j ∙ ap (λ b. cond b None (entry_in now j)) (other_tenant x.tenancy.owner.place x.ready.ended j (λ e. differ (sym (sym own ∙ e))))

-- if the ended tasks are those with an entry that are no longer active, the entries of the active ones are left
remaining : (active : Bool) (o : Option TableEntry) → cond (is_some o && not active) None o ≡ cond active o None
remaining true None = refl
remaining true (Some e) = refl
remaining false None = refl
remaining false (Some e) = refl

pub left_all : (i : ℕ) (tenants : List Standing) (before now : List TableEntry) → length tenants ≤ i → AreToldEnded tenants before → AreLeftTo i tenants before now
    → (j : JobId) → entry_in now j ≡ cond (is_active_among tenants j) (entry_in before j) None
left_all i tenants before now past told done j =
    ⊎_elim (λ (lt : j.tenant < i). done.left j lt) (λ (le : i ≤ j.tenant). done.others j le ∙ sym (ap (λ b. cond b None (entry_in before j)) (none_outside le))) (cases_lt j.tenant i)
    ∙ ap (λ b. cond b None (entry_in before j)) (told j)
    ∙ remaining (is_active_among tenants j) (entry_in before j)
  where
    none_outside : i ≤ j.tenant → is_ended_among tenants j ≡ false
    none_outside le = ap (λ (s : Standing). has_job s.tenancy.owner.place s.ready.ended j) (lists.get_or-eq_default tenants no_tenant (omega (arith, le, past)))

-- after this each tenant is without what ended
pub without_each : (before after : List Standing) → AreStepped (λ t x y. y ≡ without_ended x) before after → after ≡ map without_ended before
without_each before after steps =
    ext_get_or no_tenant after (map without_ended before) (steps.as_many ∙ sym (length-map before without_ended))
    (λ t lt. steps.each t (omega (arith, steps.as_many)) ∙ sym (lists.get_or-map without_ended before t no_tenant))

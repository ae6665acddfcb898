-- At most one tenant may drive a line.
use Rattle.std.proofs.Common.{◌≡◌, ℕ, zero, suc, Bool, true, nat_eq, List, [], ◌∷◌, refl, ap, arith, inl, inr}
use Rattle.std.proofs.lemmas.Bool.{and_parts, cases_Bool, eqb-true, false≢true}
use Rattle.std.specs.Prelude.{slice_get}
use Rattle.std.specs.List.{list_all, list_any}
use Rattle.std.specs.Option.{option_map_or}
use Rattle.rig_config.specs.Ranges.{all_drive_apart, drive_apart}
use Rattle.rig_config.specs.Roster.{may_use, no_budgets}
use Rattle.rig_config.specs.declared.TenantConfig.{TenantConfig}

-- what the tenant at a place may drive
abbrev driven_at : List TenantConfig → ℕ → List ℕ
driven_at ts t = (option_map_or (λ (tenant : TenantConfig). tenant.budgets) (slice_get ts t) no_budgets).writes

-- a test that holds of one of the numbers holds of some of them
any_of : (xs : List ℕ) (k : ℕ) (p : ℕ → Bool) → list_any (nat_eq k) xs ≡ true → p k ≡ true → list_any p xs ≡ true
any_of [] k p e h = absurd (false≢true e)
any_of (x ∷ xs) k p e h = elim (cases_Bool (nat_eq k x)) [
  | inl same ↦ (let is : k ≡ x = eqb-true k x same in rw (← is, h))
  | inr other ↦ (let more : list_any (nat_eq k) xs ≡ true = rw other at e in grind (arith, any_of xs k p more h))
]

not_both : (t u : TenantConfig) (k : ℕ) → drive_apart t u ≡ true → may_use t.budgets.writes k ≡ true → may_use u.budgets.writes k ≡ true → ⊥
not_both t u k apart own other = false≢true (rw (any_of t.budgets.writes k (may_use u.budgets.writes) own other) at apart)

none_behind : (t : TenantConfig) (us : List TenantConfig) (k : ℕ) → list_all (drive_apart t) us ≡ true → may_use t.budgets.writes k ≡ true
    → (j : ℕ) → may_use (driven_at us j) k ≡ true → ⊥
none_behind t [] k apart own j other = false≢true other
none_behind t (u ∷ us) k apart own zero other = not_both t u k (and_parts (drive_apart t u) (list_all (drive_apart t) us) apart).0 own other
none_behind t (u ∷ us) k apart own (suc j) other = none_behind t us k (and_parts (drive_apart t u) (list_all (drive_apart t) us) apart).1 own j other

pub one_driver_of : (ts : List TenantConfig) (k s t : ℕ) → all_drive_apart ts ≡ true → may_use (driven_at ts s) k ≡ true → may_use (driven_at ts t) k ≡ true → s ≡ t
one_driver_of [] k s t apart at_s at_t = absurd (false≢true at_s)
one_driver_of (x ∷ xs) k zero zero apart at_s at_t = refl
one_driver_of (x ∷ xs) k zero (suc t) apart at_s at_t = absurd (none_behind x xs k (and_parts (list_all (drive_apart x) xs) (all_drive_apart xs) apart).0 at_s t at_t)
one_driver_of (x ∷ xs) k (suc s) zero apart at_s at_t = absurd (none_behind x xs k (and_parts (list_all (drive_apart x) xs) (all_drive_apart xs) apart).0 at_t s at_s)
one_driver_of (x ∷ xs) k (suc s) (suc t) apart at_s at_t =
    ap suc (one_driver_of xs k s t (and_parts (list_all (drive_apart x) xs) (all_drive_apart xs) apart).1 at_s at_t)

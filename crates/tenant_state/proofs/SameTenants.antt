-- Tenants that are the same: what follows from their parts, and their parts from them.
use Rattle.std.proofs.Common.{◌≡◌, ◌↔◌, ℕ, ℤ, List, [], ◌∷◌, length, map, refl, sym, ap, ◌∙◌, arith}
use Rattle.std.specs.List.{zip}
use Rattle.giotto_tasks.specs.declared.names.Name.{Name}
use Rattle.rig_model.specs.text.Program.{GiottoProgram}
use Rattle.rig_model.specs.declared.config.Budgets.{Budgets}
use Rattle.rig_model.specs.grants.Grants.{GrantRows}
use Rattle.rig_model.specs.Row.{Row}
use Rattle.rig_model.specs.Tenancies.{Tenancy}
use Rattle.std.proofs.lemmas.List.{length-map}
use Rattle.tenant_slots.specs.well_formed.Slots.{port_names, valuation_of}
use Rattle.tenant_slots.specs.well_formed.cited.Slots.{slots_of}
use Rattle.rig_model.specs.rules.Ports.{ports_of, shown_name}

-- the rights of a tenant with these budgets and rows
abbrev pub tenancy_with : Budgets → GrantRows → Tenancy
tenancy_with budgets rows = record { owner = rows.owner; budgets = budgets }

pub rights_same : (b c : Budgets) (g h : GrantRows) → ((b ≡ c) × (g ≡ h)) ↔ ((tenancy_with b g ≡ tenancy_with c h) × ((g.offers ≡ h.offers) × (g.binds ≡ h.binds)))
rights_same b c g h = (
  λ e. (λ k. tenancy_with (e.0 k) (e.1 k), (ap (λ (r : GrantRows). r.offers) e.1, ap (λ (r : GrantRows). r.binds) e.1)),
  λ f. (ap (λ (t : Tenancy). t.budgets) f.0, λ k. record { owner = (f.0 k).owner; offers = f.1.0 k; binds = f.1.1 k }),
)

-- a row has these parts
pub row_from : (r s : Row) → r.state ≡ s.state → r.program ≡ s.program → r.mode ≡ s.mode → r.mode_time ≡ s.mode_time → r.active ≡ s.active → r.ports ≡ s.ports
    → r.offers ≡ s.offers → r.binds ≡ s.binds → r.waiting ≡ s.waiting → r.records ≡ s.records → r.next_tick ≡ s.next_tick → r ≡ s
row_from r s state program mode time active ports offers binds waiting records tick =
    λ k. record {
      state = state k;
      program = program k;
      mode = mode k;
      mode_time = time k;
      active = active k;
      ports = ports k;
      offers = offers k;
      binds = binds k;
      waiting = waiting k;
      records = records k;
      next_tick = tick k;
    }

zip_values : (xs : List Name) (zs : List ℤ) → length zs ≡ length xs → map (λ (p : Name × ℤ). p.1) (zip xs zs) ≡ zs
zip_values [] [] e = refl
zip_values [] (z ∷ zs) e = absurd (omega (arith, e))
zip_values (x ∷ xs) [] e = absurd (omega (arith, e))
zip_values (x ∷ xs) (z ∷ zs) e = ap (λ ys. z ∷ ys) (zip_values xs zs (omega (arith, e)))

-- the values of a program's ports are as many as the ports
values_again : (p : GiottoProgram) (values : List ℤ) → length values ≡ slots_of p → map (λ (q : Name × ℤ). q.1) (valuation_of p values) ≡ values
values_again p values long = zip_values (port_names p) values (long ∙ sym (length-map (ports_of p) shown_name))

-- ports of one program have the same values just if the lists of values are equal
pub values_same : (p q : GiottoProgram) (values others : List ℤ) → p ≡ q → length values ≡ slots_of p → length others ≡ slots_of q → (values ≡ others) ↔ (valuation_of p values ≡ valuation_of q others)
values_same p q values others same long longer = (
  λ e k. valuation_of (same k) (e k),
  λ e. sym (values_again p values long) ∙ (ap (map (λ (r : Name × ℤ). r.1)) e ∙ values_again q others longer),
)

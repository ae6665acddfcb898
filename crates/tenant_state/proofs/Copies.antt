-- The copy of a tenant.
use Rattle.std.proofs.Common.{◌≡◌, ℕ, ℤ, ◌&&◌, List, is_some, Option, Some, None, refl, sym, ap, subst, ◌∙◌}
use Rattle.std.specs.Arc.{arc_value}
use Rattle.std.specs.List.{list_all}
use Rattle.std.specs.Option.{option_map}
use Rattle.giotto_tasks.specs.Syntax.{TaskBody}
use Rattle.rig_model.specs.declared.config.Budgets.{Budgets}
use Rattle.rig_model.specs.grants.Grants.{GrantRows}
use Rattle.rig_model.specs.text.Program.{GiottoProgram}
use Rattle.rig_model.specs.trace.Trace.{LastRecords}
use Rattle.tenant_state.specs.Tenants.{is_shared, standing_of}
use Rattle.tenant_state.specs.declared.tenants.Active.{Active}
use Rattle.tenant_state.specs.declared.tenants.State as code
use Rattle.tenant_state.specs.declared.tenants.waiting.Waiting.{Waiting}
use Rattle.tenant_state.specs.inner.Copies.{AreCopied}
use Rattle.tenant_state.specs.inner.Tenants.{FitsWaiting}
use Rattle.tenant_state.proofs.Shares.{shared_map}

-- the copy of a waiting program fits if the waiting program does
pub fits_copied : (o : Option GiottoProgram) (waiting copy : Option Waiting) → AreCopied waiting copy → FitsWaiting o waiting → FitsWaiting o copy
fits_copied o None copy same fits = subst (FitsWaiting o) (sym same) tt
fits_copied o (Some w) None same fits = absurd same
fits_copied o (Some w) (Some copy) same fits = record {
  begins = record {
    long = rw (same.program, same.values) fits.begins.long;
    initial = rw (same.program, same.values) fits.begins.initial;
    share_each = rw (same.program, same.shares) fits.begins.share_each;
  };
  keeps = rw (same.program, same.carried) fits.keeps;
}

-- it is the same program
pub program_copied : (waiting copy : Option Waiting) → AreCopied waiting copy → option_map (λ (w : Waiting). w.program) copy ≡ option_map (λ (w : Waiting). w.program) waiting
program_copied None copy same = ap (option_map (λ (w : Waiting). w.program)) same
program_copied (Some w) None same = absurd same
program_copied (Some w) (Some copy) same = ap (λ p. Some p) same.program

-- it has a share of each body exactly if the waiting program has
pub shared_copied : (waiting copy : Option Waiting) → AreCopied waiting copy → is_shared copy ≡ is_shared waiting
shared_copied None copy same = ap is_shared same
shared_copied (Some w) None same = absurd same
shared_copied (Some w) (Some copy) same =
    sym (shared_map arc_value copy.beginning.shares.items) ∙ ap (list_all is_some) same.shares ∙ shared_map arc_value w.beginning.shares.items

-- so a tenant with the copy is the same tenant
pub standing_copied : (budgets : Budgets) (grants : GrantRows) (state : code.State) (program : Option GiottoProgram) (mode time : ℕ) (active ended : List Active) (room : ℕ) (values : List ℤ)
    (shares : List (Option TaskBody)) (waiting copy : Option Waiting) (trace : LastRecords) (next_tick : ℕ) → AreCopied waiting copy
    → standing_of budgets grants state program mode time active ended room values shares copy trace next_tick ≡ standing_of budgets grants state program mode time active ended room values shares waiting trace next_tick
standing_copied budgets grants state program mode time active ended room values shares waiting copy trace next_tick same =
    let tenant = standing_of budgets grants state program mode time active ended room values shares waiting trace next_tick in
    (λ k. record tenant {
      row = record tenant.row { waiting = program_copied waiting copy same k };
      ready = record tenant.ready { shared = list_all is_some shares && shared_copied waiting copy same k };
    })

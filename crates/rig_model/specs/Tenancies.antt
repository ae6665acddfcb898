-- What a tenant is given when it is made, and keeps.
use Rattle.tenant_lines.specs.declared.config.Budgets.{Budgets}
use Rattle.tenant_lines.specs.grants.Grants.{Owner}
use Rattle.std.specs.Prelude.{ℕ, List, map}
use Rattle.giotto_tasks.specs.declared.names.Name.{Name}
use Rattle.tenant_lines.specs.config.Roster.{Rig, budgets_at}
use Rattle.tenant_lines.specs.declared.config.TenantConfig.{TenantConfig}

pub record Tenancy : Type 0 where
  -- its place in the roster, the roster, how many offers and binds it may have, and the bounds of an offer that names none
  pub owner : Owner
  -- its budgets
  pub budgets : Budgets

-- the names of all tenants, by their places
abbrev pub roster_of : Rig → List Name
roster_of config = map (λ (tenant : TenantConfig). tenant.name) config.tenants

-- the tenant at place t, as the owner of its offers and binds
abbrev pub owner_at : Rig → ℕ → Owner
owner_at config t = record { place = t; roster = roster_of config; most_offers = (budgets_at config t).offers; most_binds = (budgets_at config t).binds; bounds = (budgets_at config t).bounds }

-- what the tenant at place t is given
abbrev pub tenancy_at : Rig → ℕ → Tenancy
tenancy_at config t = record { owner = owner_at config t; budgets = budgets_at config t }

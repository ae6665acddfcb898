-- A rig, and its roster: the tenants by their places and names.
use Rattle.std.specs.Prelude.{ℕ, Bool, ◌&&◌, nat_eq, nat_lt, List, [], Option, length, slice_get}
use Rattle.std.specs.List.{list_any, position}
use Rattle.std.specs.Option.{option_map_or}
use Rattle.giotto_tasks.specs.declared.names.Name.{Name}
use Rattle.giotto_tasks.specs.Names.{same_name}
use Rattle.rig_config.specs.Intervals.{whole}
use Rattle.rig_config.specs.declared.Budgets.{Budgets}
use Rattle.rig_config.specs.declared.TenantConfig.{TenantConfig}

-- a rig: its number of lines, and its tenants
pub record Rig : Type 0 where
  pub lines : ℕ
  pub tenants : List TenantConfig

abbrev pub is_tenant : Rig → ℕ → Bool
is_tenant rig t = nat_lt t (length rig.tenants)

-- the place of the tenant with this name
abbrev pub place_of : Rig → Name → Option ℕ
place_of rig x = position (λ (t : TenantConfig). same_name t.name x) rig.tenants

-- these are the tenant's name and key
abbrev pub has : TenantConfig → List ℕ → List ℕ → Bool
has tenant name key = same_name tenant.name name && same_name tenant.key key

-- the place of the tenant with this name and this key
abbrev pub greeted : Rig → List ℕ → List ℕ → Option ℕ
greeted rig name key = position (λ tenant. has tenant name key) rig.tenants

-- the name of the tenant at a place; empty if the roster has no such place
abbrev pub name_at : Rig → ℕ → Name
name_at rig t = option_map_or (λ (tenant : TenantConfig). tenant.name) (slice_get rig.tenants t) []

-- budgets that allow nothing
abbrev pub no_budgets : Budgets
no_budgets = record { reads = []; writes = []; bytes = 0; ports = 0; tasks = 0; modes = 0; steps = 0; trace = 0; offers = 0; binds = 0; bounds = whole }

-- the budgets of the tenant at a place; they allow nothing if the roster has no such place
abbrev pub budgets_at : Rig → ℕ → Budgets
budgets_at rig t = option_map_or (λ (tenant : TenantConfig). tenant.budgets) (slice_get rig.tenants t) no_budgets

-- whether line k is among these lines, a tenant's `reads` or `writes`
abbrev pub may_use : List ℕ → ℕ → Bool
may_use lines k = list_any (nat_eq k) lines

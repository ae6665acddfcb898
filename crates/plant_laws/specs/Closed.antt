-- Sets of tenants that nothing from outside reaches, through binds or the plant.
use Rattle.std.specs.Prelude.{◌≡◌, ℕ, Bool, true, false, ◌||◌, List, slice_get}
use Rattle.std.specs.Option.{option_map_or}
use Rattle.plant_couplings.specs.Couplings.{can_change}
use Rattle.plant_couplings.specs.declared.couplings.Plant.{Plant}
use Rattle.rig_model.specs.Base.{Setting}
use Rattle.rig_model.specs.config.Roster.{Rig}
use Rattle.rig_model.specs.declared.config.TenantConfig.{TenantConfig}
use Rattle.rig_model.specs.declared.events.Event.{Event}
use Rattle.tenant_sources.specs.Links.{is_source_of}

-- What the tenant at place u may drive can change what the one at place t may read.
abbrev pub is_driven_by : Rig → Plant → ℕ → ℕ → Bool
is_driven_by config plant t u =
    option_map_or (λ (driver : TenantConfig). option_map_or (can_change plant driver) (slice_get config.tenants t) false) (slice_get config.tenants u) false

-- A change of the tenant at place u reaches the one at place t directly: u is a source of t in the list, or drives it through the plant.
abbrev pub is_direct : Setting → Plant → List Event → ℕ → ℕ → Bool
is_direct setting plant past t u = is_source_of setting past t u || is_driven_by setting.config plant t u

-- a set that has, with a tenant, each one whose change reaches it directly
abbrev pub IsClosed : Setting → Plant → List Event → (ℕ → Bool) → Type 0
IsClosed setting plant past members = (t u : ℕ) → members t ≡ true → is_direct setting plant past t u ≡ true → members u ≡ true

-- A change of the tenant at place u can reach the one at place t, through binds, the plant, or both in turn: u is in each closed set that has t.
abbrev pub Reaches : Setting → Plant → List Event → ℕ → ℕ → Type 0
Reaches setting plant past t u = (members : ℕ → Bool) → IsClosed setting plant past members → members t ≡ true → members u ≡ true

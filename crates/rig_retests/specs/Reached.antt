-- Whom a change can reach, as a table of marks: for each tenant, a mark for each tenant whose change can reach it.
use Rattle.std.specs.Prelude.{◌≡◌, ◌↔◌, ℕ, Bool, true, false, List, [], slice_index_or}
use Rattle.plant_couplings.specs.declared.couplings.Plant.{Plant}
use Rattle.plant_laws.specs.Closed.{Reaches}
use Rattle.rig_model.specs.Base.{Setting}
use Rattle.rig_model.specs.config.Roster.{Rig, is_tenant}
use Rattle.rig_model.specs.declared.events.Event.{Event}
use Rattle.tenant_sources.specs.Links.{IsLinkTable, Links}

-- the tenant at place u has a mark
abbrev pub is_marked : List Bool → ℕ → Bool
is_marked marks u = slice_index_or marks u false

-- the tenant at place u has a mark in the row of the one at place t
abbrev pub is_marked_in : List (List Bool) → ℕ → ℕ → Bool
is_marked_in rows t u = is_marked (slice_index_or rows t []) u

-- in each history of this configuration with these links
abbrev pub ForLinks : Rig → Links → (Setting → List Event → Type 0) → Type 0
ForLinks config links P = (setting : Setting) (past : List Event) → setting.config ≡ config → IsLinkTable setting past links → P setting past

-- Exactly the tenants have a mark whose change can reach the one at place t.
abbrev pub AreReaching : Plant → ℕ → List Bool → Setting → List Event → Type 0
AreReaching plant t marks setting past = (u : ℕ) → (is_marked marks u ≡ true) ↔ Reaches setting plant past t u

-- Each row is that of its tenant.
abbrev pub IsReachTable : Plant → List (List Bool) → Setting → List Event → Type 0
IsReachTable plant rows setting past = (t : ℕ) → is_tenant setting.config t ≡ true → AreReaching plant t (slice_index_or rows t []) setting past

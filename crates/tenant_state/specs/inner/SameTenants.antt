-- The parts of two tenants that are the same.
use Rattle.std.specs.Prelude.{◌≡◌}
use Rattle.rig_model.specs.Row.{Row}
use Rattle.tenant_state.specs.Standing.{Standing}

-- both have the same place, roster, budgets, offers and binds
abbrev pub HaveSameRights : Standing → Standing → Type 0
HaveSameRights one other = (one.tenancy ≡ other.tenancy) × ((one.row.offers ≡ other.row.offers) × (one.row.binds ≡ other.row.binds))

-- both have the same program, in the same mode, with the same active tasks and values of ports
abbrev pub AreAtSameCourse : Row → Row → Type 0
AreAtSameCourse one other = (one.program ≡ other.program) × ((one.mode ≡ other.mode) × ((one.active ≡ other.active) × (one.ports ≡ other.ports)))

-- both do the same, at the same mode time and before the same instant, and the same program waits
abbrev pub HaveSameState : Row → Row → Type 0
HaveSameState one other = (one.state ≡ other.state) × ((one.mode_time ≡ other.mode_time) × ((one.next_tick ≡ other.next_tick) × (one.waiting ≡ other.waiting)))

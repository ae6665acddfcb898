-- The values that tenants grant each other, taken between the two halves of an instant.
use Rattle.std.specs.Prelude.{ℤ, List, Option, ℕ, map}
use Rattle.std.specs.List.{filter_map, zip}
use Rattle.std.specs.Option.{option_map, option_and_then}
use Rattle.giotto_tasks.specs.declared.names.Name.{Name}
use Rattle.giotto_tasks.specs.Names.{Valuation}
use Rattle.tenant_lines.specs.declared.grants.rows.Bind.{Bind}
use Rattle.tenant_lines.specs.grants.Grants.{granted_value, name_of_place, offer_of, place_in}
use Rattle.rig_model.specs.Row.{actuator_value, Row}

-- the bind's sensor has the value that is granted through it, if one is
abbrev pub granted_through : Bind × Option ℤ → Option (Name × ℤ)
granted_through g = option_map (λ z. (g.0.sensor, z)) g.1

-- what these binds grant, by their places: a value, or none
abbrev pub granted_along : List Bind → List (Option ℤ) → Valuation
granted_along binds values = filter_map granted_through (zip binds values)

-- `rows` are all tenants' rows before the instant, `halves` those after its first half
module _ (roster : List Name) (rows halves : ℕ → Row) where
  -- What tenant u grants to tenant t of this actuator: its offer to t applied to the actuator's value after u's first half. Nothing if u
  -- doesn't offer it to t, or has no program with such an actuator.
  abbrev pub granted_from : ℕ → Name → ℕ → Option ℤ
  granted_from t actuator u = option_and_then (λ o. option_map (granted_value o) (actuator_value (halves u) actuator)) (offer_of (rows u).offers actuator (name_of_place roster t))

  -- what is granted to tenant t through one of its binds
  abbrev pub granted_by : ℕ → Bind → Option ℤ
  granted_by t b = option_and_then (granted_from t b.actuator) (place_in roster b.tenant)

  -- what tenant t is granted: each bound sensor has what is granted through its bind
  abbrev pub granted_to : ℕ → Valuation
  granted_to t = granted_along (rows t).binds (map (granted_by t) (rows t).binds)

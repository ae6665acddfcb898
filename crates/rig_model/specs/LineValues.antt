-- The values with which tenants drive the lines of the rig.
use Rattle.std.specs.Prelude.{ℕ, Bool, false, nat_eq, Option, ℤ, find, option_and_then, pos, unwrap_or}
use Rattle.std.specs.Option.{option_map_or}
use Rattle.giotto_rules.specs.text.Program.{ActuatorDeclaration, GiottoProgram}
use Rattle.rig_model.specs.Row.{Row, actuator_value}
use Rattle.std.specs.List.{position}
use Rattle.tenant_lines.specs.config.Roster.{Rig, may_use}
use Rattle.tenant_lines.specs.declared.config.TenantConfig.{TenantConfig}

-- whether an actuator with this line, if any, drives line k
abbrev pub drives : ℕ → Option ℕ → Bool
drives k line = option_map_or (nat_eq k) line false

-- the actuator of a program that drives line k, if there is one
abbrev pub driver_of : ℕ → GiottoProgram → Option ActuatorDeclaration
driver_of k p = find (λ a. drives k a.line) p.actuators

-- the value that the row's program gives line k, if an actuator of it drives the line
abbrev pub line_value : Row → ℕ → Option ℤ
line_value row k = option_and_then (λ a. actuator_value row a.name) (option_and_then (driver_of k) row.program)

-- the place of the tenant that may drive line k, if there is one
abbrev pub writer_of : Rig → ℕ → Option ℕ
writer_of config k = position (λ (tenant : TenantConfig). may_use tenant.budgets.writes k) config.tenants

-- The value of line k: that of the actuator with this line in the program of the tenant that may drive it; 0 if no tenant may, or if its
-- program has no such actuator.
abbrev pub value_of_line : Rig → (ℕ → Row) → ℕ → ℤ
value_of_line config rows k = unwrap_or (option_and_then (λ t. line_value (rows t) k) (writer_of config k)) (pos 0)

-- The binds in their table.
use Rattle.std.specs.Prelude.{◌≡◌, ℕ, List, Ok}
use Rattle.std.specs.List.{AllByRecursion}
use Rattle.giotto_tasks.specs.declared.names.Name.{Name}
use Rattle.tenant_grants.specs.Grants.{Owner, other_side}
use Rattle.tenant_grants.specs.declared.rows.Bind.{Bind}
use Rattle.tenant_grants.specs.declared.tables.Sensor.{Sensor}
use Rattle.tenant_grants.specs.declared.tables.Supplier.{Supplier}

-- the bind of an entry of the table
abbrev pub bind_of : Sensor × Supplier → Bind
bind_of e = record { sensor = e.0.name; tenant = e.1.tenant; actuator = e.1.actuator }

-- an entry's sensor, its supplier's place and the supplier's actuator
abbrev pub placed : Sensor × Supplier → Name × ℕ × Name
placed e = (e.0.name, e.1.place, e.1.actuator)

-- each supplier's place is that of its name, and the supplier isn't the owner
abbrev pub AreSuppliersPlaced : Owner → List (Sensor × Supplier) → Type 0
AreSuppliersPlaced owner es = AllByRecursion (λ e. other_side owner e.1.tenant ≡ Ok e.1.place) es

-- The updates of a mode's actuators.
use Rattle.std.specs.Prelude.{ℕ, Bool, ◌&&◌, if◌then◌else◌, List, [], ◌∷◌, ◌++◌}
use Rattle.giotto_tasks.specs.Names.{Valuation, with_value}
use Rattle.giotto_tasks.specs.Meaning.{value_of}
use Rattle.giotto_rules.specs.text.Program.{ActuatorUpdate, ModeDeclaration}
use Rattle.tenant_lines.specs.declared.trace.records.Happening.{Happening}
use Rattle.tenant_lines.specs.declared.trace.records.Happening.TheVariants as happening
use Rattle.rig_model.specs.Ports.{holds}
use Rattle.rig_model.specs.Due.{is_due_at}

-- an actuator update happens if it is due and its guard holds
abbrev pub is_updated : ModeDeclaration → ℕ → ActuatorUpdate → Valuation → Bool
is_updated m time u ports = is_due_at time m u.frequency && holds u.guard ports

-- the ports after one actuator update
abbrev pub updated : ModeDeclaration → ℕ → ActuatorUpdate → Valuation → Valuation
updated m time u ports = if is_updated m time u ports then with_value ports u.actuator (value_of u.value ports) else ports

-- the ports after these actuator updates, in text order
abbrev pub all_updated : ModeDeclaration → ℕ → List ActuatorUpdate → Valuation → Valuation
all_updated m time [] ports = ports
all_updated m time (u ∷ us) ports = all_updated m time us (updated m time u ports)

-- each update that happens
abbrev pub updates_happened : ModeDeclaration → ℕ → List ActuatorUpdate → Valuation → List Happening
updates_happened m time [] ports = []
updates_happened m time (u ∷ us) ports =
    (if is_updated m time u ports then happening.Act u.actuator (value_of u.value ports) ∷ [] else []) ++ updates_happened m time us (updated m time u ports)

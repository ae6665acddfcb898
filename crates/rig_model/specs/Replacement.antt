-- The values that a program keeps of the one that it replaces.
use Rattle.std.specs.Prelude.{Bool, ◌&&◌, ◌||◌, if◌then◌else◌, ℤ, List, map, unwrap_or}
use Rattle.giotto_tasks.specs.declared.names.Name.{Name}
use Rattle.giotto_tasks.specs.Names.{Valuation, value_at, is_among}
use Rattle.giotto_rules.specs.text.Program.{GiottoProgram}
use Rattle.giotto_rules.specs.Declarations.{sensor_names, actuator_names}
use Rattle.rig_model.specs.Ports.{initial_ports}

-- both programs have a port of this name, among these names of each
abbrev pub stands_in_both : (GiottoProgram → List Name) → GiottoProgram → GiottoProgram → Name → Bool
stands_in_both names old new x = is_among (names old) x && is_among (names new) x

-- A sensor keeps the value of the old sensor of its name, and an actuator that of the old actuator; every other port is initial.
abbrev pub carried_over : Valuation → GiottoProgram → GiottoProgram → Name → ℤ → ℤ
carried_over ports old new x z =
    if stands_in_both sensor_names old new x || stands_in_both actuator_names old new x then unwrap_or (value_at ports x) z else z

-- the ports of the new program, given those of the old one
abbrev pub carried_ports : Valuation → GiottoProgram → GiottoProgram → Valuation
carried_ports ports old new = map (λ (v : Name × ℤ). (v.0, carried_over ports old new v.0 v.1)) (initial_ports new)

-- The ports after granted values, which are taken after the readings.
use Rattle.std.specs.Prelude.{Bool, true, false, ◌&&◌, if◌then◌else◌, ℤ, [], ◌∷◌}
use Rattle.std.specs.List.{list_any}
use Rattle.giotto_tasks.specs.declared.names.Name.{Name}
use Rattle.giotto_tasks.specs.Names.{Valuation, same_name, with_value}
use Rattle.rig_model.specs.text.Program.{Source, from_line, from_grant, SensorDeclaration, GiottoProgram}

abbrev pub is_grant : Source → Bool
is_grant (from_line k) = false
is_grant from_grant = true

-- a sensor takes what is granted to this name: it is a `grant` sensor, and has the name
abbrev pub takes_granted : Name → SensorDeclaration → Bool
takes_granted x s = is_grant s.source && same_name s.name x

-- the ports after a value is granted to this name: a `grant` sensor of the name has it, and all other ports are unchanged
abbrev pub with_granted : GiottoProgram → Name → ℤ → Valuation → Valuation
with_granted p x z ports = if list_any (takes_granted x) p.sensors then with_value ports x z else ports

-- the ports after granted values, taken one after the other
abbrev pub with_each_granted : GiottoProgram → Valuation → Valuation → Valuation
with_each_granted p [] ports = ports
with_each_granted p (g ∷ gs) ports = with_each_granted p gs (with_granted p g.0 g.1 ports)

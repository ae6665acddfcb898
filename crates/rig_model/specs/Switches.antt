-- The switches of a mode.
use Rattle.std.specs.Prelude.{ℕ, Bool, ◌&&◌, map, Option}
use Rattle.std.specs.List.{find}
use Rattle.giotto_tasks.specs.declared.names.Name.{Name}
use Rattle.giotto_tasks.specs.Names.{Valuation}
use Rattle.giotto_tasks.specs.Syntax.{Expression}
use Rattle.giotto_tasks.specs.Meaning.{value_of}
use Rattle.giotto_rules.specs.text.PortNames.{with_values}
use Rattle.giotto_rules.specs.text.Program.{ModeSwitch, ModeDeclaration}
use Rattle.giotto_rules.specs.Declarations.{destinations_of}
use Rattle.rig_model.specs.Due.{is_due_at}
use Rattle.rig_model.specs.Ports.{holds}

-- a switch can be taken if it is due and its guard holds
abbrev pub is_open : ModeDeclaration → ℕ → Valuation → ModeSwitch → Bool
is_open m time ports s = is_due_at time m s.frequency && holds s.guard ports

-- the switch that is taken: the first that can be
abbrev pub switch_taken : ModeDeclaration → ℕ → Valuation → Option ModeSwitch
switch_taken m time ports = find (is_open m time ports) m.switches

-- the ports after the switch: its destinations have their values, all of which were taken before the first was written
abbrev pub with_destinations : ModeSwitch → Valuation → Valuation
with_destinations s ports = with_values ports (destinations_of s) (map (λ (d : Name × Expression). value_of d.1 ports) s.destinations)

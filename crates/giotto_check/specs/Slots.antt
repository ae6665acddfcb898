-- The ports of a program by number: each port has a slot in one list of values.
use Rattle.std.specs.Prelude.{ℤ, List, map}
use Rattle.std.specs.List.{zip}
use Rattle.giotto_tasks.specs.declared.names.Name.{Name}
use Rattle.giotto_tasks.specs.Names.{Valuation}
use Rattle.giotto_rules.specs.text.Program.{GiottoProgram}
use Rattle.giotto_rules.specs.Ports.{shown_name, ports_of}

-- the displayed names of all ports, in the order of their numbers
abbrev pub port_names : GiottoProgram → List Name
port_names p = map shown_name (ports_of p)

-- the map from names to values that a list of the values of all ports represents
abbrev pub valuation_of : GiottoProgram → List ℤ → Valuation
valuation_of p values = zip (port_names p) values

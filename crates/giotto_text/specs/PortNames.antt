-- Ports by name: the names of tasks' private ports, and maps in which several ports get values.
use Rattle.std.specs.Prelude.{ℤ, List, [], ◌∷◌, ◌++◌, map, codes}
use Rattle.giotto_tasks.specs.declared.names.Name.{Name}
use Rattle.giotto_tasks.specs.Names.{Valuation, with_value}

-- the displayed name of an input or a state of a task; no other port has this name, because no name contains a dot
abbrev pub own_port : Name → Name → Name
own_port task x = task ++ (codes "." ++ x)

-- a task's private ports with these names
abbrev pub own_ports : Name → List Name → List Name
own_ports task xs = map (own_port task) xs

-- the map with these values for these names
abbrev pub with_values : Valuation → List Name → List ℤ → Valuation
with_values ports [] zs = ports
with_values ports (x ∷ xs) [] = ports
with_values ports (x ∷ xs) (z ∷ zs) = with_values (with_value ports x z) xs zs

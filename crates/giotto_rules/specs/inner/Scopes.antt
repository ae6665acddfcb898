-- The names that an expression may read: those of one list, or of two.
use Rattle.std.specs.Prelude.{List, ◌++◌, Option, Some, None}
use Rattle.giotto_tasks.specs.declared.names.Name.{Name}

-- the names of one list, and of a second one if there is one
abbrev pub joined : List Name → Option (List Name) → List Name
joined first None = first
joined first (Some second) = first ++ second

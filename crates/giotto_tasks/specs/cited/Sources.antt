-- What an expression may read from: a map with each of its names exactly once.
use Rattle.std.specs.Prelude.{List, map, Bool, false, not, if◌then◌else◌, [], ◌∷◌, IsTrue}
use Rattle.giotto_tasks.specs.declared.names.Name.{Name}
use Rattle.giotto_tasks.specs.Names.{Valuation, same_name, is_among}
use Rattle.giotto_tasks.specs.Syntax.{Expression}
use Rattle.giotto_tasks.specs.Sound.{reads_only}

-- the names of the map, in order
abbrev pub names_in : Valuation → List Name
names_in vs = map (λ v. v.0) vs

-- the name is in the list exactly once
abbrev pub is_once_among : List Name → Name → Bool
is_once_among [] x = false
is_once_among (n ∷ ns) x = if same_name n x then not (is_among ns x) else is_once_among ns x

-- each name of the expression is among the sources exactly once
abbrev pub AreSourcesOf : Valuation → Expression → Type 0
AreSourcesOf sources e = IsTrue (reads_only (is_once_among (names_in sources)) e)

-- The places of names in a list.
use Rattle.std.specs.Prelude.{◌≡◌, ℕ, List, Option}
use Rattle.indexmap.specs.IndexMap.{IndexMap, get}
use Rattle.std.specs.List.{position_from}
use Rattle.giotto_tasks.specs.declared.names.Name.{Name}
use Rattle.giotto_tasks.specs.Names.{same_name}

-- the first place of the name, if the list begins at place i
abbrev pub place_from : ℕ → List Name → Name → Option ℕ
place_from i names x = position_from (λ n. same_name n x) i names

-- the map has the first place of each name, if the list begins at place i
abbrev pub HasPlaces : {S : Type 0} → ℕ → List Name → IndexMap Name ℕ S → Type 0
HasPlaces i names places = (x : Name) → get same_name places x ≡ place_from i names x

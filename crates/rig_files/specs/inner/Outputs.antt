-- Whether two paths are of one file.
use Rattle.std.specs.Prelude.{Bool, false, ◌||◌, ℕ, List, Option, Some, None}
use Rattle.giotto_tasks.specs.Names.{same_name}

-- whether two paths as they are resolved are the same; one is `None` if there is no such file
abbrev pub are_resolved_alike : Option (List ℕ) → Option (List ℕ) → Bool
are_resolved_alike None other = false
are_resolved_alike (Some one) None = false
are_resolved_alike (Some one) (Some other) = same_name one other

-- whether two paths are the same as given, or as they are resolved
abbrev pub is_same_file : List ℕ → List ℕ → Option (List ℕ) → Option (List ℕ) → Bool
is_same_file given other resolved other_resolved = same_name given other || are_resolved_alike resolved other_resolved

-- Lists of names and numbers, as the rules compare them.
use Rattle.std.specs.Prelude.{ℕ, nat_eq, Bool, true, not, ◌&&◌, List, [], ◌∷◌}
use Rattle.std.specs.List.{list_all, list_any}
use Rattle.giotto_tasks.specs.declared.names.Name.{Name}
use Rattle.giotto_tasks.specs.Names.{is_among}

-- all of `some` are among the names
abbrev pub are_among : List Name → List Name → Bool
are_among names some = list_all (is_among names) some

-- none of `some` is among the names
abbrev pub share_none : List Name → List Name → Bool
share_none names some = list_all (λ y. not (is_among names y)) some

-- no number occurs twice
abbrev pub all_different_numbers : List ℕ → Bool
all_different_numbers [] = true
all_different_numbers (n ∷ ns) = not (list_any (nat_eq n) ns) && all_different_numbers ns

-- The names of two lists.
use Rattle.std.proofs.Common.{◌≡◌, ◌||◌, List, ◌++◌}
use Rattle.giotto_tasks.specs.declared.names.Name.{Name}
use Rattle.giotto_tasks.specs.Names.{is_among}
use Rattle.giotto_tasks.proofs.cited.NameLemmas.{is_among-append}

pub is_among_joined : (xs ys : List Name) (x : Name) → is_among (xs ++ ys) x ≡ (is_among xs x || is_among ys x)
is_among_joined xs ys x = is_among-append xs ys x

use Rattle.std.proofs.Common.{◌≡◌, ◌-◌, length, drop}
use Rattle.giotto_tasks.specs.Sound.{all_different}
use Rattle.giotto_tasks.specs.cited.Places.{HasPlaces}
use Rattle.giotto_tasks.proofs.index.Index.of_many.Given as goal

-- the names from the last one on
abbrev pub invariant-loop-behind : goal.invariant-loop-behind
invariant-loop-behind l =
    let place = length l.names.items - l.behind in
    HasPlaces place (drop place l.names.items) l.places × (l.different ≡ all_different (drop place l.names.items))

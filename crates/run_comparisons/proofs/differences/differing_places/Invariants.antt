use Rattle.std.proofs.Common.{◌≡◌, map}
use Rattle.std.specs.List.{filter, range_with_len}
use Rattle.run_comparisons.specs.Differences.{differ_at}
use Rattle.run_comparisons.proofs.differences.differing_places.Given as goal

abbrev pub invariant-loop-place : goal.invariant-loop-place
invariant-loop-place l = l.places.items ≡ filter (differ_at l.tolerance (map (λ a. a.now) l.old) (map (λ a. a.now) l.new)) (range_with_len 0 l.place)

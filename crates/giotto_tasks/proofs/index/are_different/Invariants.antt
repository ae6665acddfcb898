use Rattle.std.proofs.Common.{◌≡◌, drop}
use Rattle.giotto_tasks.specs.Sound.{all_different}
use Rattle.giotto_tasks.proofs.index.are_different.Given as goal

abbrev pub invariant-loop-place : goal.invariant-loop-place
invariant-loop-place l = all_different (drop l.place l.names) ≡ all_different l.names

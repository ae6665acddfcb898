use Rattle.std.proofs.Common.{◌≡◌, drop}
use Rattle.std.specs.List.{list_all}
use Rattle.giotto_tasks.specs.Sound.{all_different}
use Rattle.giotto_rules.proofs.rules.invocations.each_all_different.Given as goal

abbrev pub invariant-loop-names : goal.invariant-loop-names
invariant-loop-names l = list_all all_different (drop l.names-index l.lists) ≡ list_all all_different l.lists

use Rattle.std.proofs.Common.{◌≡◌, map, take}
use Rattle.giotto_tasks.specs.Trees.{expression_of}
use Rattle.giotto_text.proofs.same.same_arguments.Given as goal

abbrev pub invariant-loop-i : goal.invariant-loop-i
invariant-loop-i l = map expression_of (take l.i l.ones) ≡ map expression_of (take l.i l.others)

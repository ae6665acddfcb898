use Rattle.std.proofs.Common.{◌≡◌, map, take}
use Rattle.giotto_text.specs.ProgramTrees.{task_of}
use Rattle.giotto_text.proofs.same.same_tasks.Given as goal

abbrev pub invariant-loop-i : goal.invariant-loop-i
invariant-loop-i l = map task_of (take l.i l.ones) ≡ map task_of (take l.i l.others)

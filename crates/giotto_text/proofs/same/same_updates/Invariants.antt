use Rattle.std.proofs.Common.{◌≡◌, map, take}
use Rattle.giotto_text.specs.ProgramTrees.{update_of}
use Rattle.giotto_text.proofs.same.same_updates.Given as goal

abbrev pub invariant-loop-i : goal.invariant-loop-i
invariant-loop-i l = map update_of (take l.i l.ones) ≡ map update_of (take l.i l.others)

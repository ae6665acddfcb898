use Rattle.std.proofs.Common.{◌≡◌, map, take}
use Rattle.giotto_text.specs.ProgramTrees.{output_of}
use Rattle.giotto_text.proofs.same.same_outputs.Given as goal

abbrev pub invariant-loop-i : goal.invariant-loop-i
invariant-loop-i l = map output_of (take l.i l.ones) ≡ map output_of (take l.i l.others)

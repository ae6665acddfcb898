use Rattle.std.proofs.Common.{◌≡◌, map, take}
use Rattle.giotto_text.specs.ProgramTrees.{destination_of}
use Rattle.giotto_text.proofs.same.same_destinations.Given as goal

abbrev pub invariant-loop-i : goal.invariant-loop-i
invariant-loop-i l = map destination_of (take l.i l.ones) ≡ map destination_of (take l.i l.others)

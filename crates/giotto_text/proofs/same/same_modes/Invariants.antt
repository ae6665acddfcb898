use Rattle.std.proofs.Common.{◌≡◌, map, take}
use Rattle.giotto_text.specs.ProgramTrees.{mode_of}
use Rattle.giotto_text.proofs.same.same_modes.Given as goal

abbrev pub invariant-loop-i : goal.invariant-loop-i
invariant-loop-i l = map mode_of (take l.i l.ones) ≡ map mode_of (take l.i l.others)

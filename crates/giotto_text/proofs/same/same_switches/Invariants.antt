use Rattle.std.proofs.Common.{◌≡◌, map, take}
use Rattle.giotto_text.specs.ProgramTrees.{switch_of}
use Rattle.giotto_text.proofs.same.same_switches.Given as goal

abbrev pub invariant-loop-i : goal.invariant-loop-i
invariant-loop-i l = map switch_of (take l.i l.ones) ≡ map switch_of (take l.i l.others)

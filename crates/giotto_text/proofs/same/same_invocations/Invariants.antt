use Rattle.std.proofs.Common.{◌≡◌, map, take}
use Rattle.giotto_text.specs.ProgramTrees.{invocation_of}
use Rattle.giotto_text.proofs.same.same_invocations.Given as goal

abbrev pub invariant-loop-i : goal.invariant-loop-i
invariant-loop-i l = map invocation_of (take l.i l.ones) ≡ map invocation_of (take l.i l.others)

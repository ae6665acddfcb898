use Rattle.std.proofs.Common.{◌≡◌, map, take}
use Rattle.giotto_text.specs.ProgramTrees.{actuator_of}
use Rattle.giotto_text.proofs.same.same_actuators.Given as goal

abbrev pub invariant-loop-i : goal.invariant-loop-i
invariant-loop-i l = map actuator_of (take l.i l.ones) ≡ map actuator_of (take l.i l.others)

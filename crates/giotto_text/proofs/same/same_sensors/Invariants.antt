use Rattle.std.proofs.Common.{◌≡◌, map, take}
use Rattle.giotto_text.specs.ProgramTrees.{sensor_of}
use Rattle.giotto_text.proofs.same.same_sensors.Given as goal

abbrev pub invariant-loop-i : goal.invariant-loop-i
invariant-loop-i l = map sensor_of (take l.i l.ones) ≡ map sensor_of (take l.i l.others)

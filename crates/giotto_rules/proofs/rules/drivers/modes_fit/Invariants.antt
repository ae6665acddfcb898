use Rattle.std.proofs.Common.{◌≡◌, drop, map}
use Rattle.std.specs.List.{list_all}
use Rattle.giotto_text.specs.ProgramTrees.{mode_of}
use Rattle.giotto_rules.specs.Drivers.{drivers_fit}
use Rattle.giotto_rules.proofs.rules.drivers.modes_fit.Given as goal

abbrev pub invariant-loop-i : goal.invariant-loop-i
invariant-loop-i l = list_all (drivers_fit l.program) (map mode_of (drop l.i l.modes)) ≡ list_all (drivers_fit l.program) (map mode_of l.modes)

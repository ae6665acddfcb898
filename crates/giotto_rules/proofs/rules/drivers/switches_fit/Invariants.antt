use Rattle.std.proofs.Common.{◌≡◌, drop, map}
use Rattle.giotto_text.specs.ProgramTrees.{switch_of}
use Rattle.giotto_rules.specs.Drivers.{switches_fit}
use Rattle.giotto_rules.proofs.rules.drivers.switches_fit.Given as goal

abbrev pub invariant-loop-switch : goal.invariant-loop-switch
invariant-loop-switch l =
    switches_fit l.program l.sources (map switch_of (drop l.switch-index l.switches))
    ≡ switches_fit l.program l.sources (map switch_of l.switches)

use Rattle.std.proofs.Common.{◌≡◌, map, take}
use Rattle.giotto_text.specs.ProgramTrees.{mode_of}
use Rattle.giotto_rules.specs.inner.Periods.{periods_in}
use Rattle.giotto_rules.proofs.rules.switches.periods_of_modes.Given as goal

abbrev pub invariant-loop-mode : goal.invariant-loop-mode
invariant-loop-mode l = l.periods.items ≡ map (periods_in l.program) (map mode_of (take l.mode-index l.mode-items))

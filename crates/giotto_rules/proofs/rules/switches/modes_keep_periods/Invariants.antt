use Rattle.std.proofs.Common.{◌≡◌, drop, map}
use Rattle.std.specs.List.{list_all}
use Rattle.giotto_text.specs.ProgramTrees.{mode_of}
use Rattle.giotto_rules.specs.Switches.{mode_keeps_periods}
use Rattle.giotto_rules.proofs.rules.switches.modes_keep_periods.Given as goal

abbrev pub invariant-loop-mode : goal.invariant-loop-mode
invariant-loop-mode l = list_all (mode_keeps_periods l.program) (map mode_of (drop l.mode-index l.mode-items)) ≡ list_all (mode_keeps_periods l.program) (map mode_of l.mode-items)

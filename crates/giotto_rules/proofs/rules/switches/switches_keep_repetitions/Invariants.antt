use Rattle.std.proofs.Common.{◌≡◌, drop, map}
use Rattle.std.specs.List.{list_all}
use Rattle.giotto_text.specs.ProgramTrees.{mode_of, switch_of}
use Rattle.giotto_rules.specs.Switches.{switch_keeps_periods}
use Rattle.giotto_rules.proofs.rules.switches.switches_keep_repetitions.Given as goal

abbrev pub invariant-loop-switch : goal.invariant-loop-switch
invariant-loop-switch l =
    list_all (switch_keeps_periods l.program (mode_of l.mode)) (map switch_of (drop l.switch-index l.switch-items))
    ≡ list_all (switch_keeps_periods l.program (mode_of l.mode)) (map switch_of l.switch-items)

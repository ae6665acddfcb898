use Rattle.std.proofs.Common.{◌≡◌, drop, map}
use Rattle.std.specs.List.{list_all}
use Rattle.giotto_text.specs.ProgramTrees.{switch_of, invocation_of}
use Rattle.giotto_rules.specs.Switches.{keeps_period}
use Rattle.giotto_rules.proofs.rules.switches.switch_keeps_periods.Given as goal

abbrev pub invariant-loop-i : goal.invariant-loop-i
invariant-loop-i l =
    list_all (keeps_period l.program l.mode.period (switch_of l.switch)) (map invocation_of (drop l.i l.invocations))
    ≡ list_all (keeps_period l.program l.mode.period (switch_of l.switch)) (map invocation_of l.invocations)

use Rattle.std.proofs.Common.{◌≡◌, drop, map}
use Rattle.std.specs.List.{list_all}
use Rattle.giotto_text.specs.Program.{ModeSwitch}
use Rattle.giotto_text.specs.ProgramTrees.{switch_of}
use Rattle.giotto_rules.specs.Frequencies.{divides}
use Rattle.giotto_rules.proofs.rules.frequencies.switches_divide.Given as goal

abbrev pub invariant-loop-switch : goal.invariant-loop-switch
invariant-loop-switch l =
    list_all (λ (s : ModeSwitch). divides s.frequency l.period) (map switch_of (drop l.switch-index l.switches))
    ≡ list_all (λ (s : ModeSwitch). divides s.frequency l.period) (map switch_of l.switches)

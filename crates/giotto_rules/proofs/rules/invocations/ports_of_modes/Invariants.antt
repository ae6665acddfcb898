use Rattle.std.proofs.Common.{◌≡◌, map, take}
use Rattle.giotto_text.specs.ProgramTrees.{mode_of}
use Rattle.giotto_rules.specs.Declarations.{mode_ports}
use Rattle.giotto_rules.proofs.rules.invocations.ports_of_modes.Given as goal

abbrev pub invariant-loop-mode : goal.invariant-loop-mode
invariant-loop-mode l = l.each.items ≡ map (mode_ports l.program) (map mode_of (take l.mode-index l.mode-items))

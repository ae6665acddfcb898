use Rattle.std.proofs.Common.{◌≡◌, take, map}
use Rattle.std.specs.List.{flat_map}
use Rattle.giotto_text.specs.Canonical.{switch_tokens}
use Rattle.giotto_text.specs.ProgramTrees.{switch_of}
use Rattle.giotto_read.specs.inner.Printing.{written}
use Rattle.giotto_read.proofs.printing.Printer.switches.Given as goal

abbrev pub invariant-loop-switch : goal.invariant-loop-switch
invariant-loop-switch l = l.self ≡ written l.initial.self (flat_map switch_tokens (map switch_of (take l.switch-index l.switches)))

use Rattle.std.proofs.Common.{◌≡◌, take, map}
use Rattle.std.specs.List.{flat_map}
use Rattle.giotto_text.specs.Canonical.{mode_tokens}
use Rattle.giotto_text.specs.ProgramTrees.{mode_of}
use Rattle.giotto_read.specs.inner.Printing.{written}
use Rattle.giotto_read.proofs.printing.Printer.modes.Given as goal

abbrev pub invariant-loop-mode : goal.invariant-loop-mode
invariant-loop-mode l = l.self ≡ written l.initial.self (flat_map mode_tokens (map mode_of (take l.mode-index l.modes)))

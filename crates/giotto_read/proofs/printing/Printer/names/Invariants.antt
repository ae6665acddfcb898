use Rattle.std.proofs.Common.{◌≡◌, take, map}
use Rattle.giotto_text.specs.Canonical.{name_tokens, with_commas}
use Rattle.giotto_read.specs.inner.Printing.{written}
use Rattle.giotto_read.proofs.printing.Printer.names.Given as goal

abbrev pub invariant-loop-i : goal.invariant-loop-i
invariant-loop-i l = l.self ≡ written l.initial.self (with_commas (map name_tokens (take l.i l.names)))

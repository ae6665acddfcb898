use Rattle.std.proofs.Common.{◌≡◌, take, map}
use Rattle.giotto_tasks.specs.Trees.{expression_of}
use Rattle.giotto_text.specs.Canonical.{expression_tokens, with_commas}
use Rattle.giotto_read.specs.inner.Printing.{written}
use Rattle.giotto_read.proofs.printing.Printer.arguments.Given as goal

abbrev pub invariant-loop-i : goal.invariant-loop-i
invariant-loop-i l = l.self ≡ written l.initial.self (with_commas (map (λ e. expression_tokens (expression_of e)) (take l.i l.arguments)))

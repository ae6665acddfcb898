use Rattle.std.proofs.Common.{◌≡◌, take, map}
use Rattle.std.specs.List.{flat_map}
use Rattle.giotto_tasks.specs.Trees.{statement_of}
use Rattle.giotto_text.specs.Canonical.{statement_tokens}
use Rattle.giotto_read.specs.inner.Printing.{written}
use Rattle.giotto_read.proofs.printing.Printer.+body.Given as goal

abbrev pub invariant-in_braces-loop-statement : goal.invariant-in_braces-loop-statement
invariant-in_braces-loop-statement l = l.self ≡ written l.initial.self (flat_map statement_tokens (map statement_of (take l.statement-index l.block)))

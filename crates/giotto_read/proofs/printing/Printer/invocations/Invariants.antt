use Rattle.std.proofs.Common.{◌≡◌, take, map}
use Rattle.std.specs.List.{flat_map}
use Rattle.giotto_text.specs.Canonical.{invocation_tokens}
use Rattle.giotto_text.specs.ProgramTrees.{invocation_of}
use Rattle.giotto_read.specs.inner.Printing.{written}
use Rattle.giotto_read.proofs.printing.Printer.invocations.Given as goal

abbrev pub invariant-loop-invocation : goal.invariant-loop-invocation
invariant-loop-invocation l = l.self ≡ written l.initial.self (flat_map invocation_tokens (map invocation_of (take l.invocation-index l.invocations)))

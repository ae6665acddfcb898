use Rattle.std.proofs.Common.{◌≡◌, take, map}
use Rattle.std.specs.List.{flat_map}
use Rattle.giotto_text.specs.Canonical.{given_tokens}
use Rattle.giotto_text.specs.ProgramTrees.{destination_of}
use Rattle.giotto_read.specs.inner.Printing.{written}
use Rattle.giotto_read.proofs.printing.Printer.destinations.Given as goal

abbrev pub invariant-loop-destination : goal.invariant-loop-destination
invariant-loop-destination l = l.self ≡ written l.initial.self (flat_map (λ d. given_tokens d.0 d.1) (map destination_of (take l.destination-index l.destinations)))

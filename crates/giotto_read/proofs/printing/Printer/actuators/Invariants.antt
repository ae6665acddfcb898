use Rattle.std.proofs.Common.{◌≡◌, take, map}
use Rattle.std.specs.List.{flat_map}
use Rattle.giotto_text.specs.Canonical.{actuator_tokens}
use Rattle.giotto_text.specs.ProgramTrees.{actuator_of}
use Rattle.giotto_read.specs.inner.Printing.{written}
use Rattle.giotto_read.proofs.printing.Printer.actuators.Given as goal

abbrev pub invariant-loop-actuator : goal.invariant-loop-actuator
invariant-loop-actuator l = l.self ≡ written l.initial.self (flat_map actuator_tokens (map actuator_of (take l.actuator-index l.actuators)))

use Rattle.std.proofs.Common.{◌≡◌, take, map}
use Rattle.std.specs.List.{flat_map}
use Rattle.giotto_text.specs.Canonical.{sensor_tokens}
use Rattle.giotto_text.specs.ProgramTrees.{sensor_of}
use Rattle.giotto_read.specs.inner.Printing.{written}
use Rattle.giotto_read.proofs.printing.Printer.sensors.Given as goal

abbrev pub invariant-loop-sensor : goal.invariant-loop-sensor
invariant-loop-sensor l = l.self ≡ written l.initial.self (flat_map sensor_tokens (map sensor_of (take l.sensor-index l.sensors)))

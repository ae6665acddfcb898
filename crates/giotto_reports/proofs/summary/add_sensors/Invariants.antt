use Rattle.std.proofs.Common.{◌≡◌, ◌++◌, map, take, string_bytes}
use Rattle.std.specs.List.{flat_map}
use Rattle.giotto_breaks.specs.text.ProgramTrees.{sensor_of}
use Rattle.giotto_reports.specs.Summaries.{ended, line_of_sensor}
use Rattle.giotto_reports.proofs.summary.add_sensors.Given as goal

abbrev pub invariant-loop-sensor : goal.invariant-loop-sensor
invariant-loop-sensor l = string_bytes l.text ≡ string_bytes l.initial.text ++ flat_map (λ x. ended (line_of_sensor x)) (map sensor_of (take l.sensor-index l.sensors))

use Rattle.std.proofs.Common.{◌≡◌, map, take}
use Rattle.giotto_text.specs.Program.{SensorDeclaration}
use Rattle.giotto_text.specs.ProgramTrees.{sensor_of}
use Rattle.giotto_rules.proofs.declarations.sensor_names.Given as goal

abbrev pub invariant-loop-sensor : goal.invariant-loop-sensor
invariant-loop-sensor l = l.names.items ≡ map (λ (s : SensorDeclaration). s.name) (map sensor_of (take l.sensor-index l.sensor-items))

use Rattle.std.proofs.Common.{map, take}
use Rattle.rig_model.specs.text.ProgramTrees.{sensor_of}
use Rattle.script_checks.specs.Grants.{fact_of_sensor}
use Rattle.script_checks.specs.inner.Facts.{Gains}
use Rattle.script_checks.proofs.facts.Facts.add_sensors.Given as goal

abbrev pub invariant-loop-sensor : goal.invariant-loop-sensor
invariant-loop-sensor l = Gains (map (λ s. fact_of_sensor l.tenant (sensor_of s)) (take l.sensor-index l.sensors)) l.initial.self l.self

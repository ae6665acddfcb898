use Rattle.std.proofs.Common.{arith}
use Rattle.giotto_text.specs.Program.{SensorDeclaration}
use Rattle.giotto_text.specs.ProgramTrees.{sensor_of}
use Rattle.giotto_rules.proofs.ListSteps.{taken_more}
use Rattle.giotto_rules.proofs.declarations.sensor_names.Goals as goal

pub loop-sensor-preserved : goal.loop-sensor-preserved
loop-sensor-preserved c =
    taken_more (λ (s : SensorDeclaration). s.name) sensor_of c.sensors-sensor-items.result.now c.loop-sensor.sensor-index c.sensor-item.result _ _ _ (omega arith) c.sensor-item.is c.loop-sensor.invariant c.copy.ensures c.in_ok-push.ensures.items

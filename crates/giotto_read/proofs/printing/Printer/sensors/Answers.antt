use Rattle.giotto_text.specs.Canonical.{sensor_tokens}
use Rattle.giotto_text.specs.ProgramTrees.{sensor_of}
use Rattle.giotto_read.proofs.PrintingLemmas.{written_more}
use Rattle.giotto_read.proofs.printing.Printer.sensors.Goals as goal

pub loop-sensor-preserved : goal.loop-sensor-preserved
loop-sensor-preserved c =
    written_more sensor_tokens sensor_of c.args.self.now c.args.sensors.now c.loop-sensor.sensor-index c.sensor-item.result c.loop-sensor.self c.sensor.new.self c.loop-sensor-test.true c.sensor-item.is c.loop-sensor.invariant c.in_ok-sensor.ensures

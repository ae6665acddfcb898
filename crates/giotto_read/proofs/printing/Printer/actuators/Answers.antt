use Rattle.giotto_text.specs.Canonical.{actuator_tokens}
use Rattle.giotto_text.specs.ProgramTrees.{actuator_of}
use Rattle.giotto_read.proofs.PrintingLemmas.{written_more}
use Rattle.giotto_read.proofs.printing.Printer.actuators.Goals as goal

pub loop-actuator-preserved : goal.loop-actuator-preserved
loop-actuator-preserved c =
    written_more actuator_tokens actuator_of c.args.self.now c.args.actuators.now c.loop-actuator.actuator-index c.actuator-item.result c.loop-actuator.self c.actuator.new.self c.loop-actuator-test.true c.actuator-item.is c.loop-actuator.invariant c.in_ok-actuator.ensures

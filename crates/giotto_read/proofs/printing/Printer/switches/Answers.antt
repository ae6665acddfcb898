use Rattle.giotto_text.specs.Canonical.{switch_tokens}
use Rattle.giotto_text.specs.ProgramTrees.{switch_of}
use Rattle.giotto_read.proofs.PrintingLemmas.{written_more}
use Rattle.giotto_read.proofs.printing.Printer.switches.Goals as goal

pub loop-switch-preserved : goal.loop-switch-preserved
loop-switch-preserved c =
    written_more switch_tokens switch_of c.args.self.now c.args.switches.now c.loop-switch.switch-index c.switch-item.result c.loop-switch.self c.switch.new.self c.loop-switch-test.true c.switch-item.is c.loop-switch.invariant c.in_ok-switch.ensures

use Rattle.giotto_text.specs.Canonical.{update_tokens}
use Rattle.giotto_text.specs.ProgramTrees.{update_of}
use Rattle.giotto_read.proofs.PrintingLemmas.{written_more}
use Rattle.giotto_read.proofs.printing.Printer.updates.Goals as goal

pub loop-update-preserved : goal.loop-update-preserved
loop-update-preserved c =
    written_more update_tokens update_of c.args.self.now c.args.updates.now c.loop-update.update-index c.update-item.result c.loop-update.self c.update.new.self c.loop-update-test.true c.update-item.is c.loop-update.invariant c.in_ok-update.ensures

use Rattle.giotto_text.specs.Canonical.{mode_tokens}
use Rattle.giotto_text.specs.ProgramTrees.{mode_of}
use Rattle.giotto_read.proofs.PrintingLemmas.{written_more}
use Rattle.giotto_read.proofs.printing.Printer.modes.Goals as goal

pub loop-mode-preserved : goal.loop-mode-preserved
loop-mode-preserved c =
    written_more mode_tokens mode_of c.args.self.now c.args.modes.now c.loop-mode.mode-index c.mode-item.result c.loop-mode.self c.mode.new.self c.loop-mode-test.true c.mode-item.is c.loop-mode.invariant c.in_ok-mode.ensures

use Rattle.giotto_text.specs.Canonical.{output_tokens}
use Rattle.giotto_text.specs.ProgramTrees.{output_of}
use Rattle.giotto_read.proofs.PrintingLemmas.{written_more}
use Rattle.giotto_read.proofs.printing.Printer.outputs.Goals as goal

pub loop-output-preserved : goal.loop-output-preserved
loop-output-preserved c =
    written_more output_tokens output_of c.args.self.now c.args.outputs.now c.loop-output.output-index c.output-item.result c.loop-output.self c.output.new.self c.loop-output-test.true c.output-item.is c.loop-output.invariant c.in_ok-output.ensures

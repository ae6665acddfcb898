use Rattle.giotto_text.specs.Canonical.{invocation_tokens}
use Rattle.giotto_text.specs.ProgramTrees.{invocation_of}
use Rattle.giotto_read.proofs.PrintingLemmas.{written_more}
use Rattle.giotto_read.proofs.printing.Printer.invocations.Goals as goal

pub loop-invocation-preserved : goal.loop-invocation-preserved
loop-invocation-preserved c =
    written_more invocation_tokens invocation_of c.args.self.now c.args.invocations.now c.loop-invocation.invocation-index c.invocation-item.result c.loop-invocation.self c.invocation.new.self c.loop-invocation-test.true c.invocation-item.is c.loop-invocation.invariant c.in_ok-invocation.ensures

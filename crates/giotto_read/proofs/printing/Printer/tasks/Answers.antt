use Rattle.giotto_text.specs.Canonical.{task_tokens}
use Rattle.giotto_text.specs.ProgramTrees.{task_of}
use Rattle.giotto_read.proofs.PrintingLemmas.{written_more}
use Rattle.giotto_read.proofs.printing.Printer.tasks.Goals as goal

pub loop-task-preserved : goal.loop-task-preserved
loop-task-preserved c =
    written_more task_tokens task_of c.args.self.now c.args.tasks.now c.loop-task.task-index c.task-item.result c.loop-task.self c.task.new.self c.loop-task-test.true c.task-item.is c.loop-task.invariant c.in_ok-task.ensures

use Rattle.std.proofs.Common.{arith}
use Rattle.giotto_text.specs.Program.{TaskDeclaration}
use Rattle.giotto_text.specs.ProgramTrees.{task_of, mode_of}
use Rattle.giotto_rules.specs.Declarations.{period_of_task}
use Rattle.giotto_rules.proofs.ListSteps.{taken_more_of}
use Rattle.giotto_rules.proofs.rules.switches.periods_in.Goals as goal

pub loop-task-preserved : goal.loop-task-preserved
loop-task-preserved c =
    taken_more_of (period_of_task (mode_of c.args.mode.now)) (λ (t : TaskDeclaration). t.name) task_of c.tasks-task-items.result.now c.loop-task.task-index c.task-item.result _ _ _ (omega arith) c.task-item.is
    c.loop-task.invariant c.period_of_task.ensures c.in_ok-push.ensures.items

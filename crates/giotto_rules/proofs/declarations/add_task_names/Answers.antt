use Rattle.std.proofs.Common.{arith}
use Rattle.giotto_text.specs.Program.{TaskDeclaration}
use Rattle.giotto_text.specs.ProgramTrees.{task_of}
use Rattle.giotto_rules.proofs.ListSteps.{added_more}
use Rattle.giotto_rules.proofs.declarations.add_task_names.Goals as goal

pub loop-task-preserved : goal.loop-task-preserved
loop-task-preserved c =
    added_more c.args.names.now.items (λ (t : TaskDeclaration). t.name) task_of c.tasks-task-items.result.now c.loop-task.task-index c.task-item.result _ _ _ (omega arith) c.task-item.is c.loop-task.invariant c.copy.ensures c.in_ok-push.ensures.items

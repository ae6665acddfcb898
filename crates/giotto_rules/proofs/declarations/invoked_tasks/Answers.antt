use Rattle.std.proofs.Common.{arith}
use Rattle.giotto_text.specs.Program.{TaskInvocation}
use Rattle.giotto_text.specs.ProgramTrees.{invocation_of}
use Rattle.giotto_rules.proofs.ListSteps.{taken_more}
use Rattle.giotto_rules.proofs.declarations.invoked_tasks.Goals as goal

pub loop-invocation-preserved : goal.loop-invocation-preserved
loop-invocation-preserved c =
    taken_more (λ (i : TaskInvocation). i.task) invocation_of c.as_slice-invocation-items.result.now c.loop-invocation.invocation-index c.invocation-item.result _ _ _ (omega arith) c.invocation-item.is c.loop-invocation.invariant c.copy.ensures c.in_ok-push.ensures.items

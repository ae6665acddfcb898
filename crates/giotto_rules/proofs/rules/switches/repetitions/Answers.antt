use Rattle.std.proofs.Common.{arith, refl}
use Rattle.giotto_text.specs.ProgramTrees.{invocation_of}
use Rattle.giotto_rules.specs.inner.Periods.{repetition_of}
use Rattle.giotto_rules.proofs.ListSteps.{taken_more}
use Rattle.giotto_rules.proofs.rules.switches.repetitions.Goals as goal

pub loop-invocation-preserved : goal.loop-invocation-preserved
loop-invocation-preserved c =
    taken_more (repetition_of c.args.program.now c.args.mode.now.period) invocation_of c.as_slice-invocation-items.result.now c.loop-invocation.invocation-index c.invocation-item.result _ _ _ (omega arith) c.invocation-item.is
    c.loop-invocation.invariant (rw (c.ticks_between.ensures, c.place_of_task.ensures) refl) c.in_ok-push.ensures.items

use Rattle.std.proofs.Common.{arith}
use Rattle.giotto_text.specs.ProgramTrees.{mode_of}
use Rattle.giotto_rules.specs.inner.Periods.{periods_in}
use Rattle.giotto_rules.proofs.ListSteps.{taken_more}
use Rattle.giotto_rules.proofs.rules.switches.periods_of_modes.Goals as goal

pub loop-mode-preserved : goal.loop-mode-preserved
loop-mode-preserved c =
    taken_more (periods_in c.args.program.now) mode_of c.modes-mode-items.result.now c.loop-mode.mode-index c.mode-item.result _ _ _ (omega arith) c.mode-item.is c.loop-mode.invariant c.in_ok-periods_in.ensures c.in_ok-push.ensures.items

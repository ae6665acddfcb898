use Rattle.std.proofs.Common.{arith}
use Rattle.giotto_text.specs.Program.{ActuatorUpdate}
use Rattle.giotto_text.specs.ProgramTrees.{update_of}
use Rattle.giotto_rules.proofs.ListSteps.{taken_more}
use Rattle.giotto_rules.proofs.declarations.updated_actuators.Goals as goal

pub loop-update-preserved : goal.loop-update-preserved
loop-update-preserved c =
    taken_more (λ (u : ActuatorUpdate). u.actuator) update_of c.as_slice-update-items.result.now c.loop-update.update-index c.update-item.result _ _ _ (omega arith) c.update-item.is c.loop-update.invariant c.copy.ensures c.in_ok-push.ensures.items

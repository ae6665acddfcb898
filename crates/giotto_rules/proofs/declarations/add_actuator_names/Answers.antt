use Rattle.std.proofs.Common.{arith}
use Rattle.giotto_text.specs.Program.{ActuatorDeclaration}
use Rattle.giotto_text.specs.ProgramTrees.{actuator_of}
use Rattle.giotto_rules.proofs.ListSteps.{added_more}
use Rattle.giotto_rules.proofs.declarations.add_actuator_names.Goals as goal

pub loop-actuator-preserved : goal.loop-actuator-preserved
loop-actuator-preserved c =
    added_more c.args.names.now.items (λ (a : ActuatorDeclaration). a.name) actuator_of c.actuators-actuator-items.result.now c.loop-actuator.actuator-index c.actuator-item.result _ _ _ (omega arith) c.actuator-item.is c.loop-actuator.invariant c.copy.ensures c.in_ok-push.ensures.items

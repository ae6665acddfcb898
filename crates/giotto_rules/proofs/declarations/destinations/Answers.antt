use Rattle.std.proofs.Common.{arith}
use Rattle.giotto_tasks.specs.declared.names.Name.{Name}
use Rattle.giotto_tasks.specs.Syntax.{Expression}
use Rattle.giotto_text.specs.ProgramTrees.{destination_of}
use Rattle.giotto_rules.proofs.ListSteps.{taken_more}
use Rattle.giotto_rules.proofs.declarations.destinations.Goals as goal

pub loop-destination-preserved : goal.loop-destination-preserved
loop-destination-preserved c =
    taken_more (λ (d : Name × Expression). d.0) destination_of c.as_slice-destination-items.result.now c.loop-destination.destination-index c.destination-item.result _ _ _ (omega arith) c.destination-item.is c.loop-destination.invariant c.copy.ensures c.in_ok-push.ensures.items

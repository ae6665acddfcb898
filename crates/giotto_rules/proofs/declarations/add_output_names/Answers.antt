use Rattle.std.proofs.Common.{arith}
use Rattle.giotto_text.specs.Program.{OutputDeclaration}
use Rattle.giotto_text.specs.ProgramTrees.{output_of}
use Rattle.giotto_rules.proofs.ListSteps.{added_more}
use Rattle.giotto_rules.proofs.declarations.add_output_names.Goals as goal

pub loop-output-preserved : goal.loop-output-preserved
loop-output-preserved c =
    added_more c.args.names.now.items (λ (o : OutputDeclaration). o.name) output_of c.outputs-output-items.result.now c.loop-output.output-index c.output-item.result _ _ _ (omega arith) c.output-item.is c.loop-output.invariant c.copy.ensures c.in_ok-push.ensures.items

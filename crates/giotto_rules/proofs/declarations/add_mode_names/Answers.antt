use Rattle.std.proofs.Common.{arith}
use Rattle.giotto_text.specs.Program.{ModeDeclaration}
use Rattle.giotto_text.specs.ProgramTrees.{mode_of}
use Rattle.giotto_rules.proofs.ListSteps.{added_more}
use Rattle.giotto_rules.proofs.declarations.add_mode_names.Goals as goal

pub loop-mode-preserved : goal.loop-mode-preserved
loop-mode-preserved c =
    added_more c.args.names.now.items (λ (m : ModeDeclaration). m.name) mode_of c.modes-mode-items.result.now c.loop-mode.mode-index c.mode-item.result _ _ _ (omega arith) c.mode-item.is c.loop-mode.invariant c.copy.ensures c.in_ok-push.ensures.items

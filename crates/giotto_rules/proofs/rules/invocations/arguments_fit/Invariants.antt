use Rattle.std.proofs.Common.{◌≡◌, drop, map}
use Rattle.std.specs.List.{list_all}
use Rattle.giotto_text.specs.Program.{ModeDeclaration}
use Rattle.giotto_text.specs.ProgramTrees.{mode_of}
use Rattle.giotto_rules.specs.Invocations.{argument_for_each_input}
use Rattle.giotto_rules.specs.Rules.{arguments_fit}
use Rattle.giotto_rules.proofs.rules.invocations.arguments_fit.Given as goal

abbrev pub invariant-loop-mode : goal.invariant-loop-mode
invariant-loop-mode l =
    list_all (λ (m : ModeDeclaration). list_all (argument_for_each_input l.program) m.invocations) (map mode_of (drop l.mode-index l.mode-items))
    ≡ arguments_fit l.program

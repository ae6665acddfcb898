use Rattle.std.proofs.Common.{◌≡◌, ◌++◌, map, take}
use Rattle.giotto_text.specs.Program.{ModeDeclaration}
use Rattle.giotto_text.specs.ProgramTrees.{mode_of}
use Rattle.giotto_rules.proofs.declarations.add_mode_names.Given as goal

abbrev pub invariant-loop-mode : goal.invariant-loop-mode
invariant-loop-mode l = l.names.items ≡ l.initial.names.items ++ map (λ (m : ModeDeclaration). m.name) (map mode_of (take l.mode-index l.mode-items))

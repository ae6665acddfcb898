use Rattle.std.proofs.Common.{◌≡◌, drop, map}
use Rattle.std.specs.List.{find}
use Rattle.giotto_text.specs.ProgramTrees.{mode_of}
use Rattle.giotto_text.specs.Program.{ModeDeclaration}
use Rattle.giotto_tasks.specs.Names.{same_name}
use Rattle.giotto_rules.proofs.lookups.find_mode.Given as goal

abbrev pub invariant-loop-mode : goal.invariant-loop-mode
invariant-loop-mode l = find (λ (t : ModeDeclaration). same_name t.name l.name) (map mode_of (drop l.mode-index l.mode-items)) ≡ find (λ (t : ModeDeclaration). same_name t.name l.name) (map mode_of l.mode-items)

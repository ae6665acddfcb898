use Rattle.std.proofs.Common.{◌≡◌, ◌++◌, map, take}
use Rattle.giotto_text.specs.Program.{OutputDeclaration}
use Rattle.giotto_text.specs.ProgramTrees.{output_of}
use Rattle.giotto_rules.proofs.declarations.add_output_names.Given as goal

abbrev pub invariant-loop-output : goal.invariant-loop-output
invariant-loop-output l = l.names.items ≡ l.initial.names.items ++ map (λ (o : OutputDeclaration). o.name) (map output_of (take l.output-index l.output-items))

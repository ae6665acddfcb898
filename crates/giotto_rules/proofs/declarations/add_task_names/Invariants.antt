use Rattle.std.proofs.Common.{◌≡◌, ◌++◌, map, take}
use Rattle.giotto_text.specs.Program.{TaskDeclaration}
use Rattle.giotto_text.specs.ProgramTrees.{task_of}
use Rattle.giotto_rules.proofs.declarations.add_task_names.Given as goal

abbrev pub invariant-loop-task : goal.invariant-loop-task
invariant-loop-task l = l.names.items ≡ l.initial.names.items ++ map (λ (t : TaskDeclaration). t.name) (map task_of (take l.task-index l.task-items))

use Rattle.std.proofs.Common.{◌≡◌, map, take}
use Rattle.giotto_text.specs.Program.{TaskDeclaration}
use Rattle.giotto_text.specs.ProgramTrees.{task_of, mode_of}
use Rattle.giotto_rules.specs.Declarations.{period_of_task}
use Rattle.giotto_rules.proofs.rules.switches.periods_in.Given as goal

abbrev pub invariant-loop-task : goal.invariant-loop-task
invariant-loop-task l = l.periods.items ≡ map (period_of_task (mode_of l.mode)) (map (λ (t : TaskDeclaration). t.name) (map task_of (take l.task-index l.task-items)))

use Rattle.std.proofs.Common.{◌≡◌, ◌-◌, ◌^◌, min, max, map, take}
use Rattle.std.specs.List.{fold}
use Rattle.giotto_tasks.specs.Cost.{cost_of}
use Rattle.giotto_rules.specs.text.Program.{TaskDeclaration}
use Rattle.giotto_rules.specs.text.ProgramTrees.{task_of, mode_of}
use Rattle.giotto_rules.specs.Costs.{greatest, mode_cost}
use Rattle.giotto_check.proofs.greatest_cost.greatest_cost.Given as goal

abbrev pub invariant-loop-task : goal.invariant-loop-task
invariant-loop-task l = l.greatest ≡ min (greatest (map (λ (t : TaskDeclaration). cost_of t.block) (map task_of (take l.task-index l.task-items)))) (2 ^ 64 - 1)

abbrev pub invariant-loop-mode : goal.invariant-loop-mode
invariant-loop-mode l =
    l.greatest ≡ min (fold max (greatest (map (λ (t : TaskDeclaration). cost_of t.block) l.program.tasks)) (map mode_cost (map mode_of (take l.mode-index l.mode-items)))) (2 ^ 64 - 1)

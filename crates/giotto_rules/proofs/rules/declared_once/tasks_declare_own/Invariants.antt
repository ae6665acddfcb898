use Rattle.std.proofs.Common.{◌≡◌, drop, map}
use Rattle.std.specs.List.{list_all}
use Rattle.giotto_text.specs.Program.{TaskDeclaration, body_of}
use Rattle.giotto_text.specs.ProgramTrees.{task_of}
use Rattle.giotto_rules.specs.TaskPorts.{declares_own}
use Rattle.giotto_rules.proofs.rules.declared_once.tasks_declare_own.Given as goal

abbrev pub invariant-loop-task : goal.invariant-loop-task
invariant-loop-task l =
    list_all (λ (t : TaskDeclaration). declares_own l.declared (body_of t)) (map task_of (drop l.task-index l.tasks))
    ≡ list_all (λ (t : TaskDeclaration). declares_own l.declared (body_of t)) (map task_of l.tasks)

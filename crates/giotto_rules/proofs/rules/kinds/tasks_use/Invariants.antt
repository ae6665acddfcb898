use Rattle.std.proofs.Common.{◌≡◌, drop, map}
use Rattle.std.specs.List.{list_all}
use Rattle.giotto_text.specs.ProgramTrees.{task_of}
use Rattle.giotto_rules.specs.Kinds.{task_uses}
use Rattle.giotto_rules.proofs.rules.kinds.tasks_use.Given as goal

abbrev pub invariant-loop-task : goal.invariant-loop-task
invariant-loop-task l = list_all (task_uses l.kinds) (map task_of (drop l.task-index l.tasks)) ≡ list_all (task_uses l.kinds) (map task_of l.tasks)

use Rattle.std.proofs.Common.{◌≡◌, ◌++◌, map, take, string_bytes}
use Rattle.std.specs.List.{flat_map}
use Rattle.giotto_breaks.specs.text.ProgramTrees.{task_of}
use Rattle.giotto_reports.specs.Summaries.{ended, line_of_task}
use Rattle.giotto_reports.proofs.summary.add_tasks.Given as goal

abbrev pub invariant-loop-task : goal.invariant-loop-task
invariant-loop-task l = string_bytes l.text ≡ string_bytes l.initial.text ++ flat_map (λ x. ended (line_of_task x)) (map task_of (take l.task-index l.tasks))

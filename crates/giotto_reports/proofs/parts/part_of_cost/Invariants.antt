use Rattle.std.proofs.Common.{◌≡◌, None, map, take}
use Rattle.std.specs.List.{flat_map}
use Rattle.giotto_breaks.specs.text.ProgramTrees.{task_of, mode_of}
use Rattle.giotto_reports.specs.Parts.{body, drivers_of, first_of_cost}
use Rattle.giotto_reports.proofs.parts.part_of_cost.Given as goal

abbrev pub invariant-loop-task : goal.invariant-loop-task
invariant-loop-task l = first_of_cost l.cost (map body (map task_of (take l.task-index l.task-items))) ≡ None

abbrev pub invariant-loop-mode : goal.invariant-loop-mode
invariant-loop-mode l = first_of_cost l.cost (flat_map drivers_of (map mode_of (take l.mode-index l.mode-items))) ≡ None

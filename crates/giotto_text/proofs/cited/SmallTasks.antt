-- Tasks with at most 16 ports of each kind.
use Rattle.std.proofs.Common.{◌≡◌, ◌&&◌, length, ap}
use Rattle.std.proofs.lemmas.Slice.Zip.{firsts-zip}
use Rattle.std.specs.Arc.{arc_value}
use Rattle.std.specs.Prelude.{nat_le}
use Rattle.giotto_tasks.specs.Sound.{is_small}
use Rattle.giotto_text.specs.declared.programs.Task.{Task}
use Rattle.giotto_text.specs.Program.{body_of}
use Rattle.giotto_text.specs.ProgramTrees.{task_of}

-- a task is as small as its body
pub small_task : (t : Task) → is_small (body_of (task_of t)) ≡ is_small (arc_value t.body)
small_task t =
    ap (λ ns. nat_le (length (arc_value t.body).inputs) 16 && (nat_le (length (arc_value t.body).outputs) 16 && nat_le (length ns) 16)) (firsts-zip (arc_value t.body).states t.states t.each_state)

use Rattle.std.proofs.Common.{◌≡◌, drop, map}
use Rattle.giotto_text.specs.ProgramTrees.{task_of}
use Rattle.giotto_rules.specs.Rules.{bodies_use_own_ports}
use Rattle.giotto_rules.proofs.cited.ProgramParts.{with_tasks}
use Rattle.giotto_rules.proofs.rules.bodies.bodies_use_own_ports.Given as goal

abbrev pub invariant-loop-task : goal.invariant-loop-task
invariant-loop-task l = bodies_use_own_ports (with_tasks l.program (map task_of (drop l.task-index l.task-items))) ≡ bodies_use_own_ports l.program

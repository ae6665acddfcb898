use Rattle.std.proofs.Common.{◌≡◌, drop, map}
use Rattle.std.specs.List.{find}
use Rattle.giotto_tasks.specs.Names.{same_name}
use Rattle.giotto_text.specs.Program.{TaskInvocation}
use Rattle.giotto_text.specs.ProgramTrees.{invocation_of}
use Rattle.giotto_rules.proofs.rules.switches.period_of_task.Given as goal

abbrev pub invariant-loop-invocation : goal.invariant-loop-invocation
invariant-loop-invocation l =
    find (λ (i : TaskInvocation). same_name i.task l.task) (map invocation_of (drop l.invocation-index l.invocation-items))
    ≡ find (λ (i : TaskInvocation). same_name i.task l.task) (map invocation_of l.invocation-items)

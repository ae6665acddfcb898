use Rattle.std.proofs.Common.{◌≡◌, map, take}
use Rattle.giotto_text.specs.Program.{TaskInvocation}
use Rattle.giotto_text.specs.ProgramTrees.{invocation_of}
use Rattle.giotto_rules.proofs.declarations.invoked_tasks.Given as goal

abbrev pub invariant-loop-invocation : goal.invariant-loop-invocation
invariant-loop-invocation l = l.names.items ≡ map (λ (i : TaskInvocation). i.task) (map invocation_of (take l.invocation-index l.invocation-items))

use Rattle.std.proofs.Common.{◌≡◌, map, take}
use Rattle.std.specs.List.{flat_map}
use Rattle.giotto_text.specs.Program.{TaskInvocation}
use Rattle.giotto_text.specs.ProgramTrees.{invocation_of}
use Rattle.giotto_rules.specs.Declarations.{outputs_of_task}
use Rattle.giotto_rules.proofs.declarations.mode_ports.Given as goal

abbrev pub invariant-loop-invocation : goal.invariant-loop-invocation
invariant-loop-invocation l = l.names.items ≡ flat_map (λ (i : TaskInvocation). outputs_of_task l.program i.task) (map invocation_of (take l.invocation-index l.invocation-items))

use Rattle.std.proofs.Common.{◌≡◌, drop, map}
use Rattle.std.specs.List.{list_all}
use Rattle.giotto_text.specs.Program.{TaskInvocation}
use Rattle.giotto_text.specs.ProgramTrees.{invocation_of}
use Rattle.giotto_rules.specs.Names.{are_among}
use Rattle.giotto_rules.specs.Reads.{names_in_invocation}
use Rattle.giotto_rules.proofs.rules.drivers.invocations_read.Given as goal

abbrev pub invariant-loop-invocation : goal.invariant-loop-invocation
invariant-loop-invocation l =
    list_all (λ (i : TaskInvocation). are_among l.sources (names_in_invocation i)) (map invocation_of (drop l.invocation-index l.invocations))
    ≡ list_all (λ (i : TaskInvocation). are_among l.sources (names_in_invocation i)) (map invocation_of l.invocations)

use Rattle.std.proofs.Common.{◌≡◌, drop, map}
use Rattle.std.specs.List.{list_all}
use Rattle.giotto_text.specs.ProgramTrees.{invocation_of}
use Rattle.giotto_rules.specs.Invocations.{argument_for_each_input}
use Rattle.giotto_rules.proofs.rules.invocations.invocations_fit.Given as goal

abbrev pub invariant-loop-invocation : goal.invariant-loop-invocation
invariant-loop-invocation l =
    list_all (argument_for_each_input l.program) (map invocation_of (drop l.invocation-index l.invocations))
    ≡ list_all (argument_for_each_input l.program) (map invocation_of l.invocations)

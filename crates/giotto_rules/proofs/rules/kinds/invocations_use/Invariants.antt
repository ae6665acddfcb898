use Rattle.std.proofs.Common.{◌≡◌, drop, map}
use Rattle.std.specs.List.{list_all}
use Rattle.giotto_text.specs.ProgramTrees.{invocation_of}
use Rattle.giotto_rules.specs.Kinds.{invocation_uses}
use Rattle.giotto_rules.proofs.rules.kinds.invocations_use.Given as goal

abbrev pub invariant-loop-invocation : goal.invariant-loop-invocation
invariant-loop-invocation l = list_all (invocation_uses l.kinds) (map invocation_of (drop l.invocation-index l.invocations)) ≡ list_all (invocation_uses l.kinds) (map invocation_of l.invocations)

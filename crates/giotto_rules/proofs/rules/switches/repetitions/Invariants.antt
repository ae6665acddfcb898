use Rattle.std.proofs.Common.{◌≡◌, map, take}
use Rattle.giotto_text.specs.ProgramTrees.{invocation_of}
use Rattle.giotto_rules.specs.inner.Periods.{repetition_of}
use Rattle.giotto_rules.proofs.rules.switches.repetitions.Given as goal

abbrev pub invariant-loop-invocation : goal.invariant-loop-invocation
invariant-loop-invocation l = l.repetitions.items ≡ map (repetition_of l.program l.mode.period) (map invocation_of (take l.invocation-index l.invocation-items))

use Rattle.std.specs.Prelude.{filter}
use Rattle.std.proofs.Common.{◌≡◌, take}
use Rattle.giotto_faults.specs.Expected as spec
use Rattle.giotto_faults.proofs.expected.those_expected.Given as goal

abbrev pub invariant-loop-kind : goal.invariant-loop-kind
invariant-loop-kind l = l.those.items ≡ filter (λ kind. spec.begins_program (spec.with_token l.text kind)) (take l.kind-index l.kinds)

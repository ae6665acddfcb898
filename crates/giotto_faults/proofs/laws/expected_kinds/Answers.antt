use Rattle.giotto_faults.proofs.ExpectedKinds.{kept, passes, each_kind}
use Rattle.giotto_faults.specs.declared.kinds.TheConstants.{KINDS}
use Rattle.giotto_faults.specs.Expected.{begins_program, expected_behind, with_token}
use Rattle.giotto_faults.proofs.laws.expected_kinds.Goals as goal

pub returns : goal.returns
unfolding expected_behind
returns c = λ text kind. (
  λ among. (c.beginnings.ensures (with_token text kind)).0 (passes (λ k. begins_program (with_token text k)) KINDS kind among),
  λ begins. kept (λ k. begins_program (with_token text k)) KINDS kind (each_kind kind) ((c.beginnings.ensures (with_token text kind)).1 begins),
)

-- Findings that report a fault, with more findings after them.
use Rattle.std.proofs.Common.{◌≡◌, ◌<◌, ℕ, suc, List, [], ◌∷◌, ◌++◌, length, arith}
use Rattle.giotto_faults.specs.declared.findings.Finding.{Finding}
use Rattle.giotto_faults.specs.declared.findings.Severity.TheVariants.{Error}
use Rattle.giotto_faults.specs.Findings.{BeginWithError, TellFault}

-- an error after findings that begin with an error, if there are any
pub error_behind : (findings : List Finding) (f : Finding) → f.severity ≡ Error → BeginWithError findings → TellFault (findings ++ f ∷ [])
error_behind [] f is begins = (omega arith, is)
error_behind (first ∷ findings) f is begins = (omega arith, begins)

-- any finding after findings that report a fault
pub more_behind : (findings : List Finding) (f : Finding) → TellFault findings → TellFault (findings ++ f ∷ [])
more_behind [] f told = absurd (omega (arith, told.0))
more_behind (first ∷ findings) f told = (omega arith, told.1)

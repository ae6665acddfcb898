-- Findings that report a broken rule, with one more after them.
use Rattle.std.proofs.Common.{◌≡◌, List, [], ◌∷◌, ◌++◌, subst, sym}
use Rattle.giotto_faults.proofs.cited.TellingFaults.{error_behind, more_behind}
use Rattle.giotto_faults.specs.Findings.{BeginWithError, TellFault}
use Rattle.giotto_faults.specs.declared.findings.Finding.{Finding}
use Rattle.giotto_faults.specs.declared.findings.Severity.TheVariants.{Error}

pub error_pushed : (before after : List Finding) (f : Finding) → after ≡ before ++ f ∷ [] → f.severity ≡ Error → BeginWithError before → TellFault after
error_pushed before after f grown is begins = subst TellFault (sym grown) (error_behind before f is begins)

pub more_pushed : (before after : List Finding) (f : Finding) → after ≡ before ++ f ∷ [] → TellFault before → TellFault after
more_pushed before after f grown told = subst TellFault (sym grown) (more_behind before f told)

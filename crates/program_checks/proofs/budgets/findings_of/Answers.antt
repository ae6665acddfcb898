use Rattle.std.proofs.Common.{[], ap, map}
use Rattle.program_checks.specs.Excess.{told_of}
use Rattle.program_checks.proofs.budgets.findings_of.Goals as goal

pub returns : goal.returns
returns c = c.in_ok-tell.ensures [] (ap (map told_of) c.new-findings.ensures.items)

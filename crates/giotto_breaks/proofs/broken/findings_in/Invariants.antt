use Rattle.giotto_faults.specs.Findings.{BeginWithError}
use Rattle.giotto_breaks.proofs.broken.findings_in.Given as goal

abbrev pub invariant-loop-found : goal.invariant-loop-found
invariant-loop-found l = BeginWithError l.findings.items

use Rattle.script_checks.specs.inner.Reading.{IsReadSoFar}
use Rattle.script_checks.proofs.scripts.check_script.Given as goal

abbrev pub invariant-loop-count : goal.invariant-loop-count
invariant-loop-count g l = IsReadSoFar l.config l.file (g.R.Read.remaining l.fn.reader) l.count (g.R.Read.remaining l.reader) l.checked

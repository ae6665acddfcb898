use Rattle.std.proofs.Common.{◌≡◌}
use Rattle.script_reports.specs.cited.Reports.{last_boundary}
use Rattle.script_reports.proofs.reports.last_boundary.Given as goal

abbrev pub invariant-loop-end : goal.invariant-loop-end
invariant-loop-end l = last_boundary l.text l.most ≡ last_boundary l.text l.end

abbrev pub decreases-loop-end : goal.decreases-loop-end
decreases-loop-end l = l.end

use Rattle.std.proofs.Common.{◌≡◌}
use Rattle.rig_reports.proofs.questions.statuses_of.Given as goal

abbrev pub invariant-loop-tenant : goal.invariant-loop-tenant
invariant-loop-tenant l = l.host ≡ l.initial.host

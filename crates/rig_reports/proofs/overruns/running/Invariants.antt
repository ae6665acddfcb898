use Rattle.std.proofs.Common.{◌≡◌}
use Rattle.rig_reports.specs.inner.Reporting.{ForEachPastOf, running_up_to}
use Rattle.rig_reports.proofs.overruns.running.Given as goal

abbrev pub invariant-loop-tenant : goal.invariant-loop-tenant
invariant-loop-tenant l = record {
  same : l.host ≡ l.initial.host;
  each : ForEachPastOf l.initial.host (λ setting past. l.running.items ≡ running_up_to setting past l.tenant);
}

use Rattle.std.proofs.Common.{◌≡◌, List, length}
use Rattle.rig_model.specs.declared.events.Event.{Event}
use Rattle.rig_reports.specs.inner.Reported.{overruns_up_to}
use Rattle.rig_reports.specs.inner.Reporting.{ForEachPastOf, running_up_to}
use Rattle.rig_reports.proofs.overruns.overruns.Given as goal

abbrev pub invariant-loop-tenant : goal.invariant-loop-tenant
invariant-loop-tenant l = record {
  same : l.host ≡ l.initial.host;
  each : (before : List Event) → ForEachPastOf l.initial.host (λ setting past. l.ran ≡ running_up_to setting before (length setting.config.tenants)
      → l.overruns.items ≡ overruns_up_to setting before past l.tenant);
}

use Rattle.std.proofs.Common.{◌≡◌, ◌&&◌, ℕ}
use Rattle.std.specs.Prelude.{nat_lt}
use Rattle.host_core.specs.HostStanding.{ForEachState}
use Rattle.rig_model.specs.HostState.{row_at}
use Rattle.rig_model.specs.Sources.{is_source, suppliers_of}
use Rattle.host_core.specs.inner.Trials.{has_flow}
use Rattle.host_core.proofs.trials.flows.Given as goal

abbrev pub invariant-loop-consumer : goal.invariant-loop-consumer
invariant-loop-consumer l = ForEachState l.host (λ setting state. (t u : ℕ) → has_flow l.flows.items t u ≡ (nat_lt t l.consumer && is_source (suppliers_of setting (row_at state t)) u))

use Rattle.std.proofs.Common.{◌≡◌, ◌&&◌, ◌||◌, ◌==◌, ℕ, take}
use Rattle.host_core.specs.HostStanding.{ForEachState}
use Rattle.rig_model.specs.HostState.{row_at}
use Rattle.rig_model.specs.Sources.{is_source}
use Rattle.rig_model.specs.Tenancies.{roster_of}
use Rattle.host_core.specs.inner.Trials.{has_flow}
use Rattle.host_core.proofs.Flows.{named}
use Rattle.host_core.proofs.trials.add_flows.Given as goal

abbrev pub invariant-loop-i : goal.invariant-loop-i
invariant-loop-i l = ForEachState l.host (λ setting state. (t u : ℕ) → has_flow l.flows.items t u
    ≡ (has_flow l.initial.flows.items t u || (t == l.consumer && is_source (named (roster_of setting.config) (take l.i (row_at state l.consumer).binds)) u)))

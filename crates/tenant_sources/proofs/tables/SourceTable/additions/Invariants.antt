use Rattle.std.proofs.Common.{[]}
use Rattle.std.specs.List.{All}
use Rattle.host_core.specs.HostStanding.{ForEachState}
use Rattle.rig_model.specs.HostState.{row_at}
use Rattle.tenant_sources.specs.cited.Additions.{IsPlaceOf}
use Rattle.tenant_sources.specs.inner.Links.{Adds, next_link}
use Rattle.tenant_sources.proofs.LinkAdditions.{first_ones}
use Rattle.tenant_sources.proofs.tables.SourceTable.additions.Given as goal

abbrev pub invariant-loop-tenant : goal.invariant-loop-tenant
invariant-loop-tenant l =
    All (IsPlaceOf l.self) l.added.items
    × ForEachState l.host (λ setting state. Adds l.self [] l.added.items (first_ones (λ t u. next_link setting l.self state.clock (row_at state t) t u) l.tenant))

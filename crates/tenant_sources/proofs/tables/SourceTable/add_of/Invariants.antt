use Rattle.std.specs.List.{All}
use Rattle.host_core.specs.HostStanding.{ForEachState}
use Rattle.rig_model.specs.HostState.{row_at}
use Rattle.tenant_sources.specs.cited.Additions.{IsPlaceOf}
use Rattle.tenant_sources.specs.inner.Links.{Adds, next_link}
use Rattle.tenant_sources.proofs.LinkAdditions.{first_of}
use Rattle.tenant_sources.proofs.tables.SourceTable.add_of.Given as goal

abbrev pub invariant-loop-source : goal.invariant-loop-source
invariant-loop-source l =
    All (IsPlaceOf l.self) l.added.items
    × ForEachState l.host (λ setting state. Adds l.self l.initial.added.items l.added.items (first_of (λ t u. next_link setting l.self state.clock (row_at state t) t u) l.tenant l.source))

use Rattle.std.proofs.Common.{◌≡◌, None, take, find, filter_map}
use Rattle.host_core.specs.HostStanding.{ForEachState}
use Rattle.rig_model.specs.HostState.{row_at}
use Rattle.tenant_sources.specs.Links.{has_source}
use Rattle.rig_model.specs.Tenancies.{roster_of}
use Rattle.rig_model.specs.grants.Grants.{with_place}
use Rattle.tenant_sources.proofs.FirstLinks.{Placed}
use Rattle.tenant_sources.proofs.tables.SourceTable.next_link.Given as goal

abbrev pub invariant-loop-i : goal.invariant-loop-i
invariant-loop-i l =
    ForEachState l.host (λ setting state. find (λ (b : Placed). has_source l.self b.1 l.source) (filter_map (with_place (roster_of setting.config)) (take l.i (row_at state l.tenant).binds)) ≡ None)

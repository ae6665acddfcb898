use Rattle.std.proofs.Common.{◌≡◌, ◌<◌, ◌∙◌, List, length, ap, subst, sym}
use Rattle.std.proofs.lemmas.List.{get_or_default}
use Rattle.std.specs.Prelude.{◌↔◌, IsSome}
use Rattle.rig_model.specs.config.Roster.{Rig}
use Rattle.instant_engine.specs.Tenants.{tenant_at}
use Rattle.rig_model.specs.grants.Grants.{bind_at}
use Rattle.rig_model.specs.declared.grants.rows.Bind.{Bind}
use Rattle.instant_engine.specs.state.Standing.{Standing, no_tenant}
use Rattle.rig_model.specs.Tenancies.{Tenancy, roster_of}
use Rattle.rig_model.specs.HostState.{row_at}
use Rattle.host_core.specs.HostStanding.{HostStanding}
use Rattle.host_core.proofs.AtRest.{standing}
use Rattle.rig_model.specs.Row.{Row}
use Rattle.host_core.proofs.HostRows.{here_row, same_row}
use Rattle.host_core.proofs.hosts.Host.bind_at.Goals as goal
use Rattle.host_core.proofs.hosts.Host.bind_at.Goals.{After-bind_at}

module _ (c : After-bind_at) where
  within : c.args.tenant < length c.self.inside.tenants.items
  within = subst (λ n. c.args.tenant < n) (sym c.self.invariant.whole.as_many) (subst (λ (h : HostStanding). c.args.tenant < length h.config.tenants) (sym c.self.view_is) c.requires)

  binds : c.index.result.now.row.binds ≡ (tenant_at c.args.self.now.tenants c.args.tenant).row.binds
  binds = ap (λ (row : Row). row.binds) (here_row (standing c.self.inside) c.args.self.now c.args.tenant c.index.result.now c.self.view_is within c.index.ensures)

  roster : c.index.result.now.tenancy.owner.roster ≡ roster_of c.args.self.now.config
  roster =
      ap (λ (s : Standing). s.tenancy.owner.roster) (c.index.ensures ∙ get_or_default c.self.inside.tenants.items c.args.tenant c.index.result.now no_tenant within)
      ∙ (ap (λ (y : Tenancy). y.owner.roster) (c.self.invariant.whole.tenancies c.args.tenant within) ∙ ap (λ (h : HostStanding). roster_of h.config) c.self.view_is)

pub returns-clause-bind : goal.returns-clause-bind
returns-clause-bind c =
    c.bind_at.ensures.bind
    ∙ (ap (λ names. bind_at names c.index.result.now.row.binds c.args.i) (roster c)
    ∙ ap (λ bs. bind_at (roster_of c.args.self.now.config) bs c.args.i) (binds c))

pub returns-clause-found : goal.returns-clause-found
returns-clause-found c = subst (λ (bs : List Bind). IsSome c.bind_at.result ↔ (c.args.i < length bs)) (binds c) c.bind_at.ensures.found

pub returns-clause-rows : goal.returns-clause-rows
returns-clause-rows c = λ setting state stands.
    returns-clause-bind c
    ∙ (ap (λ bs. bind_at (roster_of c.args.self.now.config) bs c.args.i) (ap (λ (row : Row). row.binds) (same_row setting c.args.self.now state stands c.args.tenant c.requires))
    ∙ ap (λ (k : Rig). bind_at (roster_of k) (row_at state c.args.tenant).binds c.args.i) stands.same_config)

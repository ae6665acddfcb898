use Rattle.std.proofs.Common.{◌≡◌, ◌≤◌, [], List, length, min, sym, ap, subst, ◌∙◌, arith}
use Rattle.std.specs.List.{All}
use Rattle.tenant_sources.specs.declared.tables.Addition.{Addition}
use Rattle.rig_model.specs.HostState.{row_at}
use Rattle.rig_model.specs.config.Roster.{Rig}
use Rattle.rig_model.specs.declared.config.TenantConfig.{TenantConfig}
use Rattle.tenant_sources.specs.cited.Additions.{IsPlaceOf}
use Rattle.tenant_sources.specs.inner.Links.{Adds, IsSquare, next_link}
use Rattle.tenant_sources.proofs.LinkAdditions.{first_ones, none_without_binds, tenants_begin, tenants_none, tenants_one}
use Rattle.tenant_sources.proofs.LinkSteps.{table_behind}
use Rattle.tenant_sources.proofs.LinkTables.{code_many}
use Rattle.tenant_sources.proofs.tables.SourceTable.additions.Goals as goal

pub loop-tenant-init : goal.loop-tenant-init
loop-tenant-init c = (
  subst (λ (xs : List Addition). All (IsPlaceOf c.args.self.now) xs) (sym c.new-added.ensures.items) (λ k d l. absurd (omega arith)),
  λ setting state stands.
      subst (λ (xs : List Addition). Adds c.args.self.now [] xs (first_ones (λ t u. next_link setting c.args.self.now state.clock (row_at state t) t u) 0)) (sym c.new-added.ensures.items)
      (tenants_begin c.args.self.now (λ t u. next_link setting c.args.self.now state.clock (row_at state t) t u)),
)

pub loop-tenant-preserved-then-bind_count-eq0 : goal.loop-tenant-preserved-then-bind_count-eq0
loop-tenant-preserved-then-bind_count-eq0 c = (
  c.loop-tenant.invariant.0,
  λ setting state stands.
      tenants_none c.args.self.now (λ t u. next_link setting c.args.self.now state.clock (row_at state t) t u) c.loop-tenant.added.items c.loop-tenant.tenant
      (λ u. none_without_binds setting c.args.self.now state.clock (row_at state c.loop-tenant.tenant) c.loop-tenant.tenant u (sym (c.bind_count.ensures.rows setting state stands) ∙ c.if-bind_count-eq0.true))
      (c.loop-tenant.invariant.1 setting state stands),
)

pub loop-tenant-preserved : goal.loop-tenant-preserved
loop-tenant-preserved c = (
  c.in_ok-add_of.ensures.places,
  λ setting state stands.
      tenants_one c.args.self.now (λ t u. next_link setting c.args.self.now state.clock (row_at state t) t u) c.loop-tenant.added.items c.add_of.new.added.items c.loop-tenant.tenant
      (c.in_ok-add_of.ensures.added setting state stands) (c.loop-tenant.invariant.1 setting state stands),
)

pub returns : goal.returns
returns c = record {
  added = λ setting past frame history stands table.
      let many = code_many c.self.inside.rows.items c.args.self.now c.self.view_is in
      let square : IsSquare c.args.self.now = subst IsSquare c.self.view_is c.self.invariant in
      let theirs : length c.tenants.result.now ≡ length c.args.host.now.config.tenants = ap (λ (ts : List TenantConfig). length ts) c.tenants.ensures.value ∙ ap (λ (g : Rig). length g.tenants) c.config.ensures in
      let enough : min (length c.args.self.now) (length c.args.host.now.config.tenants) ≤ c.loop-tenant.tenant = omega (arith, c.loop-tenant-test.false, c.min-tenants.ensures, c.len.ensures, many, theirs) in
      table_behind setting past c.args.self.now table frame c.args.host.now c.loop-tenant.added.items square c.loop-tenant.invariant.0 history stands c.loop-tenant.tenant enough c.loop-tenant.invariant.1;
}

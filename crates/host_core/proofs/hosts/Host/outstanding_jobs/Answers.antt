use Rattle.std.proofs.Common.{◌≡◌, ◌<◌, ◌++◌, List, length, map, take, get_or, sym, ap, subst, ◌∙◌}
use Rattle.std.proofs.lemmas.List.{get_or_default, take_all}
use Rattle.host_core.specs.HostStanding.{HostStanding, outstanding_from, outstanding_jobs}
use Rattle.instant_engine.specs.Tenants.{ArePlaced, tenant_at}
use Rattle.rig_model.specs.Jobs.{job_of}
use Rattle.rig_model.specs.declared.jobs.JobId.{JobId}
use Rattle.instant_engine.specs.state.Standing.{Standing, no_tenant, outstanding_tasks}
use Rattle.host_core.proofs.AtRest.{outstanding_at_rest}
use Rattle.host_core.proofs.cited.Outstanding.{named_more, some_of_all}
use Rattle.host_core.proofs.hosts.Host.outstanding_jobs.Goals as goal

pub loop-tenant-preserved : goal.loop-tenant-preserved
loop-tenant-preserved c =
    let tenants = c.deref-tenant-items.result.now in
    let i = c.loop-tenant.tenant-index in
    let entries = c.self.inside.finished.entries in
    let placed : ArePlaced tenants = subst ArePlaced (sym c.deref-tenant-items.ensures.value) c.self.invariant.whole.placed in
    let here : c.tenant-item.result ≡ tenant_at tenants i = c.tenant-item.is ∙ get_or_default tenants i c.tenant-item.result no_tenant c.loop-tenant-test.true in
    c.in_ok-add_outstanding.ensures.names ∙ (ap (λ l. l ++ map (job_of c.tenant-item.result.tenancy.owner.place) (outstanding_tasks c.tenant-item.result entries)) c.loop-tenant.invariant ∙ sym (named_more entries tenants i c.tenant-item.result placed c.loop-tenant-test.true here))

pub returns-clause-names : goal.returns-clause-names
returns-clause-names c =
    let items = c.deref-tenant-items.result.now in
    let own = c.self.inside.tenants.items in
    let all : take c.loop-tenant.tenant-index items ≡ items = take_all c.loop-tenant.tenant-index items c.loop-tenant-test.false in
    c.loop-tenant.invariant
    ∙ (ap (outstanding_from c.self.inside.finished.entries 0) (all ∙ c.deref-tenant-items.ensures.value)
    ∙ (sym (outstanding_at_rest c.self.inside.finished.entries own) ∙ ap (λ (h : HostStanding). outstanding_jobs h) c.self.view_is))

pub returns-in_err-add_outstanding-clause-memory : goal.returns-in_err-add_outstanding-clause-memory
returns-in_err-add_outstanding-clause-memory c = λ refused.
    let items = c.deref-tenant-items.result.now in
    let own = c.self.inside.tenants.items in
    let i = c.loop-tenant.tenant-index in
    let entries = c.self.inside.finished.entries in
    let here : 0 < length (outstanding_tasks (get_or items i c.tenant-item.result) entries) =
    subst (λ (x : Standing). 0 < length (outstanding_tasks x entries)) c.tenant-item.is c.in_err-add_outstanding.ensures.memory in
    subst (λ (js : List JobId). 0 < length js)
    (ap (outstanding_from entries 0) c.deref-tenant-items.ensures.value ∙ (sym (outstanding_at_rest entries own) ∙ ap (λ (h : HostStanding). outstanding_jobs h) c.self.view_is))
    (some_of_all entries 0 items i c.tenant-item.result c.loop-tenant-test.true here)

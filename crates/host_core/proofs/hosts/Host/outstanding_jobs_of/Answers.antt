use Rattle.std.proofs.Common.{rules, ◌≡◌, ◌<◌, ◌++◌, [], List, length, map, ap, subst, sym, ◌∙◌, arith}
use Rattle.std.proofs.lemmas.List.{get_or_default, length-map}
use Rattle.instant_engine.specs.Tenants.{tenant_at}
use Rattle.host_core.specs.HostStanding.{HostStanding, outstanding_of}
use Rattle.rig_model.specs.declared.jobs.JobId.{JobId}
use Rattle.rig_model.specs.Jobs.{job_of}
use Rattle.instant_engine.specs.state.Standing.{Standing, no_tenant, outstanding_tasks}
use Rattle.host_core.proofs.AtRest.{standing, outstanding_at_rest_of}
use Rattle.host_core.proofs.hosts.Host.outstanding_jobs_of.Goals as goal

pub returns-clause-names : goal.returns-clause-names
returns-clause-names c =
    let host : HostStanding = standing c.self.inside in
    let t = c.args.tenant in
    let s = c.index.result.now in
    let known : t < length host.config.tenants = subst (λ (h : HostStanding). t < length h.config.tenants) (sym c.self.view_is) c.requires in
    let within : t < length host.tenants = subst (λ n. t < n) (sym c.self.invariant.whole.as_many) known in
    let here : s ≡ tenant_at host.tenants t = c.index.ensures ∙ get_or_default host.tenants t s no_tenant within in
    let at : s.tenancy.owner.place ≡ t = ap (λ (x : Standing). x.tenancy.owner.place) here ∙ c.self.invariant.whole.placed t within in
    let named : map (job_of s.tenancy.owner.place) (outstanding_tasks s host.entries) ≡ outstanding_of host t =
    ap (λ k. map (job_of k) (outstanding_tasks s host.entries)) at ∙ ap (λ (x : Standing). map (job_of t) (outstanding_tasks x host.entries)) here in
    let none : c.new-names.result.items ≡ [] = search rules in
    c.in_ok-add_outstanding.ensures.names ∙ ap (λ l. l ++ map (job_of s.tenancy.owner.place) (outstanding_tasks s host.entries)) none ∙ (named ∙ (sym (outstanding_at_rest_of host t) ∙ ap (λ (h : HostStanding). outstanding_of h t) c.self.view_is))

pub returns-in_err-add_outstanding-clause-memory : goal.returns-in_err-add_outstanding-clause-memory
returns-in_err-add_outstanding-clause-memory c = λ refused.
    let host : HostStanding = standing c.self.inside in
    let t = c.args.tenant in
    let s = c.index.result.now in
    let known : t < length host.config.tenants = subst (λ (h : HostStanding). t < length h.config.tenants) (sym c.self.view_is) c.requires in
    let within : t < length host.tenants = subst (λ n. t < n) (sym c.self.invariant.whole.as_many) known in
    let here : s ≡ tenant_at host.tenants t = c.index.ensures ∙ get_or_default host.tenants t s no_tenant within in
    let some : 0 < length (outstanding_tasks (tenant_at host.tenants t) host.entries) = subst (λ (x : Standing). 0 < length (outstanding_tasks x host.entries)) here c.in_err-add_outstanding.ensures.memory in
    let as_many = length-map (outstanding_tasks (tenant_at host.tenants t) host.entries) (job_of t) in
    let named : 0 < length (outstanding_of host t) = omega (arith, as_many, some) in
    subst (λ (js : List JobId). 0 < length js) (sym (outstanding_at_rest_of host t) ∙ ap (λ (h : HostStanding). outstanding_of h t) c.self.view_is) named

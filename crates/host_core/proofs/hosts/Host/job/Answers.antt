use Rattle.std.proofs.Common.{◌≡◌, ◌<◌, length, sym, ap, subst, ◌∙◌, arith}
use Rattle.std.specs.Prelude.{is_some, IfOk}
use Rattle.rig_model.specs.HostState.{is_awaited}
use Rattle.host_core.specs.HostStanding.{HostStanding, ForEachState, awaited_in}
use Rattle.host_core.proofs.AtRest.{awaited_here, standing}
use Rattle.host_core.proofs.HostSteps.{job_awaits, told_as}
use Rattle.instant_engine.specs.state.Standing.{awaited_job}
use Rattle.host_core.proofs.hosts.Host.job.Goals as goal

pub returns-clause-job : goal.returns-clause-job
returns-clause-job c =
    let within : c.args.id.now.tenant < length c.self.inside.tenants.items = omega (arith, c.if-id-len.false) in
    told_as c.job.result (awaited_job c.index.result.now c.self.inside.finished.entries c.args.id.now) (awaited_in c.args.self.now c.args.id.now)
    (sym (awaited_here c.self.inside.finished.entries c.self.inside.tenants.items c.args.id.now c.index.result.now within c.index.ensures) ∙ ap (λ (h : HostStanding). awaited_in h c.args.id.now) c.self.view_is)
    c.job.ensures.job

pub returns-clause-awaited : goal.returns-clause-awaited
returns-clause-awaited c =
    let host : HostStanding = standing c.self.inside in
    let within : c.args.id.now.tenant < length host.tenants = omega (arith, c.if-id-len.false) in
    subst (λ (h : HostStanding). IfOk c.job.result (λ job. ForEachState h (λ setting state. is_some job ≡ is_awaited state c.args.id.now))) c.self.view_is
    (job_awaits host c.args.id.now c.index.result.now c.job.result within c.index.ensures c.self.invariant.whole.known c.self.invariant.whole.placed c.job.ensures.job)

pub returns-clause-never_refused : goal.returns-clause-never_refused
returns-clause-never_refused c = λ none.
    let within : c.args.id.now.tenant < length c.self.inside.tenants.items = omega (arith, c.if-id-len.false) in
    c.job.ensures.never_refused
    (sym (awaited_here c.self.inside.finished.entries c.self.inside.tenants.items c.args.id.now c.index.result.now within c.index.ensures) ∙ (ap (λ (h : HostStanding). awaited_in h c.args.id.now) c.self.view_is ∙ none))

use Rattle.std.proofs.Common.{◌≡◌, Some, refl, sym, ap, subst, ◌∙◌}
use Rattle.std.specs.Prelude.{IfSome}
use Rattle.rig_model.specs.declared.events.Event.TheVariants.{Done}
use Rattle.rig_model.specs.Host.{after_event}
use Rattle.host_core.specs.HostStanding.{Stands, awaited_in}
use Rattle.rig_model.specs.declared.jobs.JobId.{JobId}
use Rattle.instant_engine.specs.job_table.Jobs.{JobValue}
use Rattle.host_core.proofs.HostSteps.{awaited_name_in}
use Rattle.host_core.proofs.hosts.complete.Goals as goal

pub returns-clause-counted : goal.returns-clause-counted
returns-clause-counted c =
    let same : awaited_in c.args.host.now c.args.id.now ≡ Some c.in-Some.job = sym c.in_ok-job.ensures.job ∙ c.in-Some.is in
    let name : c.run_job.result.id ≡ c.args.id.now = ap (λ (k : JobValue). k.id) c.run_job.ensures ∙ awaited_name_in c.args.host.now c.args.id.now c.in-Some.job same in
    let here : awaited_in c.args.host.now c.run_job.result.id ≡ Some c.run_job.result = ap (awaited_in c.args.host.now) name ∙ (same ∙ ap Some (sym c.run_job.ensures)) in
    (λ counted none. absurd (cc), λ some. c.done-counted.ensures.counted.1 here)

pub returns-clause-step : goal.returns-clause-step
returns-clause-step c = λ setting state stands.
    let same : awaited_in c.args.host.now c.args.id.now ≡ Some c.in-Some.job = sym c.in_ok-job.ensures.job ∙ c.in-Some.is in
    let name : c.run_job.result.id ≡ c.args.id.now = ap (λ (k : JobValue). k.id) c.run_job.ensures ∙ awaited_name_in c.args.host.now c.args.id.now c.in-Some.job same in
    let here : awaited_in c.args.host.now c.run_job.result.id ≡ Some c.run_job.result = ap (awaited_in c.args.host.now) name ∙ (same ∙ ap Some (sym c.run_job.ensures)) in
    subst (λ (k : JobId). Stands setting c.done-counted.new.self (after_event setting state (Done k))) name
    (c.done-counted.ensures.step (subst (λ o. IfSome o (λ job. job ≡ c.run_job.result)) (sym here) refl) setting state stands)

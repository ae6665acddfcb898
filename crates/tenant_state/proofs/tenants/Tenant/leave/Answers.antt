use Rattle.std.proofs.Common.{◌≡◌, ◌<◌, cond, None, [], map, length, ap, ◌∙◌, arith}
use Rattle.std.proofs.lemmas.List.{length-map}
use Rattle.tenant_jobs.specs.Finished.{entry_in}
use Rattle.rig_model.specs.Jobs.{same_job, job_of}
use Rattle.tenant_state.specs.Standing.{Standing}
use Rattle.tenant_state.specs.Tenants.{active_of, tasks_in}
use Rattle.tenant_state.proofs.Completing.{stands_there}
use Rattle.tenant_state.proofs.TaskEntries.{put_more}
use Rattle.tenant_state.proofs.tenants.Tenant.leave.Goals as goal

pub loop-active-preserved : goal.loop-active-preserved
loop-active-preserved c =
    let p = c.in-Some.checked in
    let items = c.ended-active-items.result.now in
    let i = c.loop-active.active-index in
    let a = c.active-item.result in
    let lt : i < length (map (active_of p) items) = omega (arith, length-map items (active_of p), c.loop-active-test.true) in
    let name : c.job_id.result ≡ job_of c.args.self.now.tenancy.owner.place (active_of p a) = c.job_id.ensures ∙ ap (λ t. job_of t (active_of p a)) c.own.ensures.place ∙ ap (λ (s : Standing). job_of s.tenancy.owner.place (active_of p a)) c.self.view_is in
    record {
      entries = λ j. put_more c.args.self.now.tenancy.owner.place (map (active_of p) items) i (active_of p a) lt (stands_there p items i a c.active-item.is) _ _ _ j (c.remove.ensures.entries j ∙ ap (λ n. cond (same_job n j) None (entry_in c.loop-active.finished.entries j)) name) ∙ c.loop-active.invariant.entries j;
      room = omega (arith, c.remove.ensures.room, c.loop-active.invariant.room);
      none = λ first. absurd (omega (arith, first));
    }

pub returns-clause-none : goal.returns-clause-none
returns-clause-none c = λ none.
    let gone : tasks_in c.self.inside.program c.self.inside.active.ended ≡ [] = ap (λ (s : Standing). s.ready.ended) c.self.view_is ∙ none in
    let here : map (active_of c.in-Some.checked) c.self.inside.active.ended ≡ [] = rw c.in-Some.is at gone in
    c.loop-active.invariant.none
    (omega (arith, c.loop-active.auto.active-index-end, ap length here, length-map c.self.inside.active.ended (active_of c.in-Some.checked), ap length c.ended-active-items.ensures))

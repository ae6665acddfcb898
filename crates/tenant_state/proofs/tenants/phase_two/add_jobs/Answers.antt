use Rattle.std.proofs.Common.{◌+◌, ◌++◌, ◌∷◌, [], nat_eq, length, map, drop, refl, sym, ap, subst, ◌∙◌, arith}
use Rattle.std.specs.Arc.{arc_value}
use Rattle.giotto_tasks.proofs.cited.ListLemmas.{all_at, all_filter, stepped}
use Rattle.rig_model.specs.text.Program.{GiottoProgram}
use Rattle.tenant_state.specs.inner.Tenants.{IsActiveOf, its_job, released_in}
use Rattle.tenant_state.proofs.AddedJobs.{AreLeft, all_left, left_more, job_ready, released_next, none_next}
use Rattle.tenant_state.proofs.Shares.{share_set}
use Rattle.tenant_state.proofs.tenants.phase_two.add_jobs.Goals as goal
use Rattle.tenant_state.proofs.tenants.phase_two.add_jobs.Goals.{then-entry-tick+in-Some, else-entry-tick}

pub loop-entry-init : goal.loop-entry-init
loop-entry-init c = record {
  each = c.requires.shares;
  left = all_left c.args.checked.now arc_value c.args.shares.now (released_in c.args.tick c.args.active.now) c.requires.different
      (all_filter (IsActiveOf c.args.checked.now) (λ a. nat_eq a.release c.args.tick) c.args.active.now c.requires.each) c.requires.shares c.requires.shared;
  jobs = refl;
  room = refl;
}

pub job_for-requires : goal.job_for-requires
job_for-requires c =
    let p = c.args.checked.now in
    let a = c.entry-item.result in
    let declared : IsActiveOf p a = subst (IsActiveOf p) (sym c.entry-item.is) (all_at (IsActiveOf p) c.args.active.now c.loop-entry.entry-index a c.loop-entry-test.true c.requires.each) in
    let ready = job_ready p arc_value c.program-program.result.now c.args.tenant c.loop-entry.shares a c.in-Some.body _ c.program-program.ensures.tree c.program-program.ensures.fits declared
    c.loop-entry.invariant.each c.in-Some.ensures.value in
    record { there = ready.0; computable = ready.1; body = ready.2 }

pub loop-entry-preserved : goal.loop-entry-preserved
loop-entry-preserved c =
    let p = c.args.checked.now in
    let a = c.entry-item.result in
    let i = c.loop-entry.entry-index in
    let rest = released_in c.args.tick (drop (i + 1) c.args.active.now) in
    elim c.if-entry-tick.branch [
      | then-entry-tick+in-Some w ↦
          let here = released_next c.args.tick c.args.active.now i a c.loop-entry-test.true c.entry-item.is w.if-entry-tick.true in
          let job = w.job_for.ensures ∙ ap (λ (p : GiottoProgram). its_job c.args.tenant p a) c.program-program.ensures.tree in
          let jobs = map (its_job c.args.tenant p) in
          rw (w.shares-is, w.jobs-is) (record {
            each = share_set _ p.tasks c.loop-entry.shares a.task w.take.new.self (λ t at. rw (w.take.ensures.after) tt) c.loop-entry.invariant.each;
            left = rw (w.take.ensures.after) (left_more p arc_value c.loop-entry.shares a rest (subst (AreLeft p arc_value c.loop-entry.shares) here c.loop-entry.invariant.left));
            jobs = stepped w.put.new.self.jobs c.loop-entry.jobs.jobs (w.job_for.result ∷ []) (jobs rest) _ w.put.ensures.jobs (ap jobs here ∙ ap (λ j. j ∷ jobs rest) (sym job)) ∙ c.loop-entry.invariant.jobs;
            room = omega (arith, w.put.ensures.room, c.loop-entry.invariant.room, ap length here);
          })
      | else-entry-tick w ↦
          let none = none_next c.args.tick c.args.active.now i a c.loop-entry-test.true c.entry-item.is w.if-entry-tick.false in
          rw (w.shares-is, w.jobs-is) (record {
            each = c.loop-entry.invariant.each;
            left = subst (AreLeft p arc_value c.loop-entry.shares) none c.loop-entry.invariant.left;
            jobs = ap (λ xs. c.loop-entry.jobs.jobs ++ map (its_job c.args.tenant p) xs) (sym none) ∙ c.loop-entry.invariant.jobs;
            room = omega (arith, c.loop-entry.invariant.room, ap length none);
          })
    ]

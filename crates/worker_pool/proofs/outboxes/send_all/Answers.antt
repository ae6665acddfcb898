use Rattle.std.proofs.Common.{arith, ap, ◌<◌, ◌∙◌, length}
use Rattle.tenant_jobs.specs.JobLists.{JobList}
use Rattle.worker_pool.proofs.Turns.{turn_refused, turn_sent}
use Rattle.worker_pool.proofs.outboxes.send_all.Goals as goal
use Rattle.worker_pool.proofs.outboxes.send_all.Goals.{in-Err, in_default-put}

pub loop-job-preserved : goal.loop-job-preserved
loop-job-preserved g c =
    let taken = g.O.Outbox.taken in
    let turns = c.loop-job._job in
    let jobs = c.args.jobs.jobs in
    let before = taken c.args.outbox.now in
    let between = taken c.loop-job.outbox in
    let after = taken c.put.new.self in
    let now = c.take.new.self.jobs in
    let job = c.in-Some.job in
    let less : turns < length jobs = omega (arith, c.loop-job-test.true, c.len-job-end.ensures) in
    let at = c.loop-job.invariant in
    elim c.match-put.branch [
      | in-Err w ↦
          turn_refused turns before between after c.loop-job.unsent.jobs now jobs job c.in-Some.ensures.jobs at less
          w.in-Err.job c.match-put.unsent.jobs w.in-Err.ensures.refused.0 (ap (λ (l : JobList). l.jobs) w.unsent-is ∙ w.put-in-Err.ensures.jobs) w.in-Err.ensures.refused.1
      | in_default-put w ↦
          rw (w.unsent-is) (turn_sent turns before between after c.loop-job.unsent.jobs now jobs job c.in-Some.ensures.jobs at less w.in_default-put.ensures.taken)
    ]

use Rattle.worker_pool.proofs.Turns.{IsUnderway}
use Rattle.worker_pool.proofs.outboxes.send_all.Given as goal

abbrev pub invariant-loop-job : goal.invariant-loop-job
invariant-loop-job g l = IsUnderway l._job (g.O.Outbox.taken l.initial.outbox) (g.O.Outbox.taken l.outbox) l.unsent.jobs l.fn.jobs.jobs

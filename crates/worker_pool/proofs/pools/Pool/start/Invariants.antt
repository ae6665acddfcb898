use Rattle.std.proofs.Common.{◌≡◌}
use Rattle.worker_pool.proofs.pools.Pool.start.Given as goal

abbrev pub invariant-loop-worker : goal.invariant-loop-worker
invariant-loop-worker g l = l.pool ≡ l._worker

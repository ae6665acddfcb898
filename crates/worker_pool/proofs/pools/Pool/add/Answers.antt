use denote.Param.Send.{sendable}
use Rattle.std.proofs.Crossing.{crosses}
use Rattle.locked_book.proofs.cited.Crossing.{desk_sync}
use Rattle.worker_pool.proofs.Crossing.{inbox_send}
use Rattle.worker_pool.proofs.pools.Pool.add.Goals as goal

pub spawn-requires-send-F : goal.spawn-requires-send-F
spawn-requires-send-F g c κs within = search (crosses, desk_sync, inbox_send, sendable) depth 60 fits 20000

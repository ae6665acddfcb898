use denote.Param.Send.{sendable}
use Rattle.std.proofs.Crossing.{crosses}
use Rattle.worker_pool.proofs.of_book.Crossing.{desk_sync}
use Rattle.desk_tests.proofs.threads.fn.settle_beside.scope.Goals as goal

pub spawn-requires-send-F : goal.spawn-requires-send-F
spawn-requires-send-F g c κs = search (crosses, desk_sync, sendable) depth 60 fits 20000

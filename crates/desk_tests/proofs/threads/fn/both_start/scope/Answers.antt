use denote.Param.Send.{sendable}
use Rattle.std.proofs.Crossing.{crosses}
use Rattle.worker_pool.proofs.of_book.Crossing.{desk_sync, pass_send}
use Rattle.desk_tests.proofs.threads.fn.both_start.scope.Goals as goal

pub spawn-requires-send-F : goal.spawn-requires-send-F
spawn-requires-send-F g c κs = search (crosses, desk_sync, pass_send, sendable) depth 60 fits 20000

pub spawn-requires-2-send-F : goal.spawn-requires-2-send-F
spawn-requires-2-send-F g c κs = search (crosses, desk_sync, pass_send, sendable) depth 60 fits 20000

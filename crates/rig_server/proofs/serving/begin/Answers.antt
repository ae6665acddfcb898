use denote.Param.Send.{sendable}
use Rattle.std.proofs.Crossing.{crosses}
use Rattle.worker_pool.proofs.of_book.Crossing.{desk_sync}
use Rattle.rig_server.proofs.Crossing.{history_sync, register_sync}
use Rattle.rig_server.proofs.serving.begin.Goals as goal

pub spawn-requires-send-F : goal.spawn-requires-send-F
spawn-requires-send-F g c κs within = search (crosses, history_sync, register_sync, sendable) depth 60 fits 20000

pub start-requires-sync-D : goal.start-requires-sync-D
start-requires-sync-D g c κs = search (crosses, desk_sync, sendable) depth 60 fits 20000

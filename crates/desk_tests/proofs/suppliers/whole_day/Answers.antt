use denote.Param.Send.{sendable}
use Rattle.std.proofs.Crossing.{crosses}
use Rattle.worker_pool.proofs.of_book.Crossing.{desk_sync}
use Rattle.desk_tests.proofs.suppliers.whole_day.Goals as goal

pub both_talk-alphas-requires-sync-D : goal.both_talk-alphas-requires-sync-D
both_talk-alphas-requires-sync-D g c κs within = search (crosses, desk_sync, sendable) depth 60 fits 20000

use denote.Param.Send.{sendable}
use Rattle.std.proofs.Crossing.{crosses}
use Rattle.desk_checks.proofs.Tables.{table_sync, voice_send}
use Rattle.desk_checks.proofs.schedules.fn.speak_all.scope.Goals as goal

pub spawn-requires-send-F : goal.spawn-requires-send-F
spawn-requires-send-F g c κs = search (crosses, table_sync, voice_send, sendable) depth 60 fits 20000

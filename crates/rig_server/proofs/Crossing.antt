-- Threads may borrow the history of a desk, and the register of connections. Each step is one search, since one search for all takes too long.
use denote.RattleType.{RattleType}
use denote.Ref.{NamedLft}
use denote.Param.Send.{IsSend, IsSync, sendable}
use Rattle.std.proofs.Crossing.{crosses}
use Rattle.locked_book.specs.declared.naming.Naming.{Ghosts}
use Rattle.locked_book.specs.contracts.archives.Archive as Archive
use Rattle.rig_history.specs.contracts.pieces.Piece as Piece
use Rattle.rig_model.specs.config.contracts.Config as Config
use Rattle.rig_server.specs.contracts.archived.Row as Row
use Rattle.rig_server.specs.contracts.histories.History as History
use Rattle.rig_server.specs.contracts.pieces.Pieces as Pieces
use Rattle.rig_server.specs.contracts.register.Register as Register
use Rattle.std.specs.contracts.sync.Mutex as Mutex
use Rattle.worker_pool.proofs.of_book.Crossing.{desk_sync, host_send, kept_send, log_send, name_sync, pass_send}

config_sync : IsSync Config.the_row
config_sync = search (crosses, name_sync, sendable) depth 60 fits 20000

piece_send : IsSend Piece.the_row
piece_send = search (crosses, sendable) depth 60 fits 20000

archive_send : (N : RattleType) (g : Ghosts N.Denot) (s : IsSend N) → IsSend (Archive.the_row N g)
archive_send N g s = search (crosses, host_send, log_send, sendable) depth 60 fits 20000

row_send : IsSend Row.the_row
row_send = search (crosses, kept_send, sendable) depth 60 fits 20000

pieces_send : (a : NamedLft) (N F : RattleType) (g : Ghosts N.Denot) (s : IsSend N) (t : IsSend F) → IsSend (Pieces.the_row a N F g)
pieces_send a N F g s t = search (crosses, config_sync, piece_send, archive_send, row_send, sendable) depth 60 fits 20000

pub history_sync : (a : NamedLft) (N F : RattleType) (g : Ghosts N.Denot) (s : IsSend N) (t : IsSend F) → IsSync (History.the_row a N F g)
history_sync a N F g s t = search (crosses, desk_sync, pieces_send, sendable) depth 60 fits 20000

register_send : (N : RattleType) (g : Ghosts N.Denot) (s : IsSend N) → IsSend (Register.the_row N g)
register_send N g s = search (crosses, pass_send, sendable) depth 60 fits 20000

pub register_sync : (N : RattleType) (g : Ghosts N.Denot) (s : IsSend N) → IsSync (Mutex.the_row (Register.the_row N g))
register_sync N g s = search (crosses, register_send, sendable) depth 60 fits 20000

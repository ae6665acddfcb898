-- What the threads of a schedule share, and what each of them has, may be passed to the threads.
use denote.RattleType.{RattleType}
use denote.Ref.{NamedLft}
use denote.Param.Send.{IsSend, IsSync, sendable}
use Rattle.std.proofs.Crossing.{crosses}
use Rattle.locked_book.specs.declared.naming.Naming.{Ghosts}
use Rattle.locked_book.proofs.cited.Crossing.{desk_sync, host_send, job_send, log_send, logged_send, pass_send}
use Rattle.locked_book.specs.contracts.archives.Archive as Archive
use Rattle.desk_checks.proofs.voices.Heard.TheSendSync as heard
use Rattle.desk_checks.specs.contracts.voices.Table as Table
use Rattle.desk_checks.specs.contracts.voices.Heard as Heard
use Rattle.desk_checks.specs.contracts.voices.Voice as Voice

archive_send : (N : RattleType) (g : Ghosts N.Denot) → IsSend N → IsSend (Archive.the_row N g)
archive_send N g s = search (crosses, host_send, log_send, sendable) depth 60 fits 20000

pub table_sync : (κ : NamedLft) (N : RattleType) (g : Ghosts N.Denot) → IsSend N → IsSync (Table.the_row κ N g)
table_sync κ N g s = search (crosses, desk_sync, job_send, archive_send, sendable) depth 60 fits 20000

heard_send : IsSend Heard.the_row
heard_send = search (crosses, logged_send, sendable) depth 60 fits 20000

pub voice_send : (N : RattleType) (g : Ghosts N.Denot) → IsSend N → IsSend (Voice.the_row N g)
voice_send N g s = search (crosses, heard.the_field_send, heard_send, pass_send, sendable) depth 60 fits 20000

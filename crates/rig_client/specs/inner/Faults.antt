-- The faults that end a client: their text, and those of the reader of lines.
use Rattle.std.specs.Prelude.{ℕ, List, codes}
use Rattle.rig_client.specs.declared.faults.ClientFault.{ClientFault}
use Rattle.rig_client.specs.declared.faults.ClientFault.TheVariants.{Connect, KeyFile, KeyRange, Greeting, Ended, Lost, Read, Write, Memory}
use Rattle.text_lines.specs.declared.faults.LinesFault.{LinesFault}
use Rattle.text_lines.specs.declared.faults.LinesFault.TheVariants as lines

abbrev pub text_of_fault : ClientFault → List ℕ
text_of_fault Connect = codes "io: connect: no server listens on this port"
text_of_fault KeyFile = codes "key: unreadable"
text_of_fault KeyRange = codes "key: range"
text_of_fault Greeting = codes "hello: refused"
text_of_fault Ended = codes "session: ended"
text_of_fault Lost = codes "io: lost: the server has ended, or the connection broke"
text_of_fault Read = codes "io: read"
text_of_fault Write = codes "io: write"
text_of_fault Memory = codes "io: memory"

-- If an allocation for a line fails, the line isn't read. Reads are counted for one line only, and no line takes too many.
abbrev pub fault_of_lines : LinesFault → ClientFault
fault_of_lines lines.Read = Read
fault_of_lines lines.Write = Write
fault_of_lines lines.Turns = Read
fault_of_lines lines.Memory = Read

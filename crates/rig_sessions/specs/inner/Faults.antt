-- The faults of a session's lines.
use Rattle.rig_sessions.specs.declared.faults.TalkFault.{TalkFault}
use Rattle.rig_sessions.specs.declared.faults.TalkFault.TheVariants.{Read, Write, Turns}
use Rattle.text_lines.specs.declared.faults.LinesFault.{LinesFault}
use Rattle.text_lines.specs.declared.faults.LinesFault.TheVariants as lines

-- if there is no memory for a line, the line isn't read
abbrev pub fault_of_lines : LinesFault → TalkFault
fault_of_lines lines.Read = Read
fault_of_lines lines.Write = Write
fault_of_lines lines.Turns = Turns
fault_of_lines lines.Memory = Read

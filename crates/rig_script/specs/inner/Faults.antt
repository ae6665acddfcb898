-- The faults that end a script: their text, and those of the reader of lines.
use Rattle.std.specs.Prelude.{ℕ, List, codes}
use Rattle.rig_script.specs.declared.faults.ScriptFault.{ScriptFault}
use Rattle.rig_script.specs.declared.faults.ScriptFault.TheVariants.{Read, Write, Turns, Memory}
use Rattle.text_lines.specs.declared.faults.LinesFault.{LinesFault}
use Rattle.text_lines.specs.declared.faults.LinesFault.TheVariants as lines

abbrev pub text_of_fault : ScriptFault → List ℕ
text_of_fault Read = codes "io: read"
text_of_fault Write = codes "io: write"
text_of_fault Turns = codes "io: turns"
text_of_fault Memory = codes "io: memory"

-- if there is no memory for a line, the line isn't read
abbrev pub fault_of_lines : LinesFault → ScriptFault
fault_of_lines lines.Read = Read
fault_of_lines lines.Write = Write
fault_of_lines lines.Turns = Turns
fault_of_lines lines.Memory = Read

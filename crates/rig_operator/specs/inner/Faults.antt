-- The faults of an operator's lines.
use Rattle.rig_operator.specs.declared.faults.OperatorFault.{OperatorFault}
use Rattle.rig_operator.specs.declared.faults.OperatorFault.TheVariants.{Read, Write}
use Rattle.text_lines.specs.declared.faults.LinesFault.{LinesFault}
use Rattle.text_lines.specs.declared.faults.LinesFault.TheVariants as lines

-- If there is no memory for a line, the line isn't read. Reads are counted for one line only, and no line takes too many.
abbrev pub fault_of_lines : LinesFault → OperatorFault
fault_of_lines lines.Read = Read
fault_of_lines lines.Write = Write
fault_of_lines lines.Turns = Read
fault_of_lines lines.Memory = Read

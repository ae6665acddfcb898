-- The faults that end a server: their text, and those of the operator's lines.
use Rattle.std.specs.Prelude.{ℕ, List, codes}
use Rattle.rig_server.specs.declared.faults.ServeFault.{ServeFault}
use Rattle.rig_server.specs.declared.faults.ServeFault.TheVariants.{Listen, Read, Write, History, Memory}
use Rattle.rig_operator.specs.declared.faults.OperatorFault.{OperatorFault}
use Rattle.rig_operator.specs.declared.faults.OperatorFault.TheVariants as operator

abbrev pub text_of_fault : ServeFault → List ℕ
text_of_fault Listen = codes "io: listen"
text_of_fault Read = codes "io: read"
text_of_fault Write = codes "io: write"
text_of_fault History = codes "io: history"
text_of_fault Memory = codes "io: memory"

abbrev pub fault_of_operator : OperatorFault → ServeFault
fault_of_operator operator.Read = Read
fault_of_operator operator.Write = Write

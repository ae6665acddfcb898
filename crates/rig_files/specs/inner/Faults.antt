-- The text of each fault of a picture's files.
use Rattle.std.specs.Prelude.{ℕ, List, codes}
use Rattle.rig_files.specs.declared.file_faults.PictureFault.{PictureFault}
use Rattle.rig_files.specs.declared.file_faults.PictureFault.TheVariants.{Dump, Script, Timeline, Graph, Save}

abbrev pub text_of_fault : PictureFault → List ℕ
text_of_fault Dump = codes "vcd: unwritable"
text_of_fault Script = codes "script: unreadable"
text_of_fault Timeline = codes "timeline: unwritable"
text_of_fault Graph = codes "dot: unwritable"
text_of_fault Save = codes "gtkwave: unwritable"

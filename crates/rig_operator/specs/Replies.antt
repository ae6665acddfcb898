-- The replies to an operator.
use Rattle.std.specs.Prelude.{ℕ, ℤ, List, ◌++◌, codes}
use Rattle.std.specs.Fmt.{decimal, signed_decimal}
use Rattle.std.specs.List.{flat_map}
use Rattle.host_core.specs.declared.hosts.TickFault.{TickFault}
use Rattle.host_core.specs.declared.hosts.TickFault.TheVariants.{BadFrame, ClockEnded, Memory}
use Rattle.rig_operator.specs.declared.rigs.ArchiveFault.{ArchiveFault}
use Rattle.rig_operator.specs.declared.rigs.ArchiveFault.TheVariants as archive

-- to an instant of this number
abbrev pub tick_reply : ℕ → List ℕ
tick_reply number = codes "ok tick " ++ (decimal number ++ codes "\n")

-- to a refused instant
abbrev pub refusal : TickFault → List ℕ
refusal BadFrame = codes "err bad-frame\n"
refusal ClockEnded = codes "err clock-ended\n"
refusal Memory = codes "err memory\n"

abbrev pub value_text : ℤ → List ℕ
value_text value = codes " " ++ signed_decimal value

-- the values of the lines, in their order
abbrev pub lines_reply : List ℤ → List ℕ
lines_reply values = codes "ok lines" ++ (flat_map value_text values ++ codes "\n")

abbrev pub err_memory : List ℕ
err_memory = codes "err memory\n"

abbrev pub err_bad_command : List ℕ
err_bad_command = codes "err bad-command\n"

-- to an archive with this many entries
abbrev pub archive_reply : ℕ → List ℕ
archive_reply entries = codes "ok archive " ++ (decimal entries ++ codes "\n")

-- to an archive that failed
abbrev pub archive_refusal : ArchiveFault → List ℕ
archive_refusal archive.Memory = codes "err memory\n"
archive_refusal archive.History = codes "err history\n"

abbrev pub ok_wait : List ℕ
ok_wait = codes "ok wait\n"

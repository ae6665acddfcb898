-- Which commands of a tenant take memory, and so can be refused for lack of it.
use Rattle.std.specs.Prelude.{length, Bool, true, false, nat_lt, Option, Some, None}
use Rattle.rig_model.specs.text.Program.{GiottoProgram}
use Rattle.rig_model.specs.rules.Ports.{ports_of}
use Rattle.tenant_exchange.specs.Memory as grants
use Rattle.rig_model.specs.grants.Grants.{Owner}
use Rattle.rig_model.specs.declared.lines.commands.Command.{Command}
use Rattle.rig_model.specs.declared.lines.commands.Command.TheVariants.{Load, Replace, Start, Stop, ShowMode, ShowPort, ShowAll, Grants}
use Rattle.rig_model.specs.declared.lines.commands.Command.TheVariants as command
use Rattle.rig_model.specs.Row.{Row}
use Rattle.rig_model.specs.Commands.{grant_rows}

-- whether there is a program with at least one port
abbrev pub has_port : Option GiottoProgram → Bool
has_port None = false
has_port (Some p) = nat_lt 0 (length (ports_of p))

-- whether a command takes memory, and so can be refused for lack of it: `load` and `replace` for their program, `show all` for
-- the list of all values if the tenant has a program with a port, `trace` for the list of records if there is a record, and the
-- commands about grants that take memory
abbrev pub takes_memory : Owner → Command → Row → Bool
takes_memory owner (Load text) row = true
takes_memory owner (Replace text) row = true
takes_memory owner Start row = false
takes_memory owner Stop row = false
takes_memory owner ShowMode row = false
takes_memory owner (ShowPort x) row = false
takes_memory owner ShowAll row = has_port row.program
takes_memory owner command.Trace row = nat_lt 0 (length row.records)
takes_memory owner (Grants c) row = grants.takes_memory c (grant_rows owner row)

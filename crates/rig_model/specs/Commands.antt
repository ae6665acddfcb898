-- What a command does, and its reply. A refusal changes nothing. If several refusals apply, the first is given.
use Rattle.std.specs.Prelude.{pos, unwrap_or, ℕ, length, reverse, take, if◌then◌else◌, ℤ, [], map, Option, Some, None, Result, Ok, Err}
use Rattle.giotto_tasks.specs.Names.{Valuation, value_at}
use Rattle.giotto_rules.specs.Ports.{ProgramPort, shown_name, ports_of}
use Rattle.tenant_lines.specs.declared.ports.PortValue.{PortValue}
use Rattle.giotto_rules.specs.text.Program.{GiottoProgram}
use Rattle.tenant_lines.specs.declared.config.Budgets.{Budgets}
use Rattle.rig_model.specs.GrantCommands.{GrantOutcome, grants_commanded}
use Rattle.tenant_lines.specs.grants.Grants.{Owner, GrantRows}
use Rattle.tenant_lines.specs.declared.commands.Command.{Command}
use Rattle.tenant_lines.specs.declared.commands.Command.TheVariants.{Load, Replace, Start, Stop, ShowMode, ShowPort, ShowAll, Grants}
use Rattle.tenant_lines.specs.declared.commands.Command.TheVariants as command
use Rattle.tenant_lines.specs.declared.replies.Budget.{Budget}
use Rattle.tenant_lines.specs.declared.replies.Refusal.{Refusal}
use Rattle.tenant_lines.specs.declared.replies.Refusal.TheVariants.{Running, NotRunning, NotLoaded, NoPort, OverBudget}
use Rattle.tenant_lines.specs.declared.replies.Reply.{Reply}
use Rattle.tenant_lines.specs.declared.replies.Reply.TheVariants.{Loaded, Replaced, Started, Stopped, Mode, Port, All, Refused}
use Rattle.tenant_lines.specs.declared.replies.Reply.TheVariants as reply
use Rattle.tenant_lines.specs.declared.replies.Status.{Status}
use Rattle.tenant_lines.specs.declared.replies.Status.TheVariants as status
use Rattle.tenant_lines.specs.declared.ports.PortName.{PortName}
use Rattle.tenant_lines.specs.declared.trace.records.Happening.TheVariants as happening
use Rattle.rig_model.specs.FirstHalf.{stopped_with}
use Rattle.rig_model.specs.Tenancies.{Tenancy}
use Rattle.rig_model.specs.Row.{StopReason, asked, overrun, TenantState, empty, loaded, running, stopped, Row, is_running, recorded}
use Rattle.rig_model.specs.Ports.{initial_ports, value_of_port}
use Rattle.rig_model.specs.Admission.{broken_budget, program_of}

-- a port of the program as it is named in replies, with its value
abbrev pub port_with_value : Valuation → ProgramPort → PortValue
port_with_value ports x = record { port = record { task = x.task; name = x.name }; value = unwrap_or (value_at ports (shown_name x)) (pos 0) }

-- what a command results in: the row after it, and the reply
pub record CommandOutcome : Type 0 where
  pub row : Row
  pub reply : Reply

-- a refusal: the row unchanged, and the reason
abbrev pub refused : Row → Refusal → CommandOutcome
refused row r = record { row = row; reply = Refused r }

-- all ports initial, the start mode, mode time 0, no active task
abbrev pub at_beginning : TenantState → GiottoProgram → Row → Row
at_beginning state p row = record row { state = state; program = Some p; mode = p.start; mode_time = 0; active = []; ports = initial_ports p; waiting = None }

-- `load` of a well-formed program into a tenant that isn't running, by the first budget that the program is over
abbrev pub load_within : GiottoProgram → Row → Option Budget → CommandOutcome
load_within p row (Some b) = refused row (OverBudget b)
load_within p row None = record { row = at_beginning loaded p row; reply = Loaded }

-- `load` of a well-formed program with a text of this many bytes: the tenant must not be running
abbrev pub load_kept : Budgets → ℕ → GiottoProgram → Row → CommandOutcome
load_kept budgets bytes p row = if is_running row then refused row Running else load_within p row (broken_budget budgets bytes p)

-- `load` of a text of this many bytes, by the well-formed program that it spells, or the reason why it spells none
abbrev pub load_read : Budgets → ℕ → Row → Result GiottoProgram Refusal → CommandOutcome
load_read budgets bytes row (Err r) = refused row r
load_read budgets bytes row (Ok p) = load_kept budgets bytes p row

-- `replace` by a running tenant of a well-formed program, by the first budget that the program is over; else the program waits, in place of
-- one that waited before
abbrev pub replace_within : GiottoProgram → Row → Option Budget → CommandOutcome
replace_within p row (Some b) = refused row (OverBudget b)
replace_within p row None = record { row = record row { waiting = Some p }; reply = Replaced }

-- `replace` of a well-formed program with a text of this many bytes: the tenant must be running
abbrev pub replace_kept : Budgets → ℕ → GiottoProgram → Row → CommandOutcome
replace_kept budgets bytes p row = if is_running row then replace_within p row (broken_budget budgets bytes p) else refused row NotRunning

-- `replace` of a text of this many bytes, by the well-formed program that it spells, or the reason why it spells none
abbrev pub replace_read : Budgets → ℕ → Row → Result GiottoProgram Refusal → CommandOutcome
replace_read budgets bytes row (Err r) = refused row r
replace_read budgets bytes row (Ok p) = replace_kept budgets bytes p row

-- `start`: the tenant must have a program, which starts again from its beginning
abbrev pub start_program : Row → Option GiottoProgram → CommandOutcome
start_program row None = refused row NotLoaded
start_program row (Some p) = record { row = recorded (happening.Start p.start) (at_beginning running p row); reply = Started }

-- `stop`: a running tenant stops, because it asked to
abbrev pub stop_program : Row → CommandOutcome
stop_program row = if is_running row then record { row = stopped_with asked row; reply = Stopped } else refused row NotRunning

-- the answer of `show mode`
abbrev pub status_of : Row → Status
status_of row = by row.state
  where
    stopped_by : StopReason → Status
    stopped_by asked = status.StoppedAsked
    stopped_by (overrun x) = status.StoppedOverrun x

    by : TenantState → Status
    by empty = status.Empty
    by loaded = status.Loaded row.mode
    by running = status.Running row.mode row.mode_time
    by (stopped reason) = stopped_by reason

-- the answer of `show port`, by the port's value
abbrev pub show_value : PortName → Row → Option ℤ → CommandOutcome
show_value x row None = refused row NoPort
show_value x row (Some z) = record { row = row; reply = Port (record { port = x; value = z }) }

-- `show port`: the tenant must have a program, and the program must have the port
abbrev pub show_port : PortName → Row → Option GiottoProgram → CommandOutcome
show_port x row None = refused row NotLoaded
show_port x row (Some p) = show_value x row (value_of_port p row.ports x.task x.name)

-- `show all`: every port of the program, in the order of their numbers
abbrev pub show_all : Row → Option GiottoProgram → CommandOutcome
show_all row None = refused row NotLoaded
show_all row (Some p) = record { row = row; reply = All (map (port_with_value row.ports) (ports_of p)) }

-- `trace`: the last records, as many as are kept, the oldest first
abbrev pub show_trace : ℕ → Row → CommandOutcome
show_trace most row = record { row = row; reply = reply.Trace (reverse (take most row.records)) }

-- the offers and binds of a row, with this owner
abbrev pub grant_rows : Owner → Row → GrantRows
grant_rows owner row = record { owner = owner; offers = row.offers; binds = row.binds }

-- the row with the offers and binds after a command about grants, and the command's reply
abbrev pub with_grants : Row → GrantOutcome → CommandOutcome
with_grants row o = record { row = record row { offers = o.rows.offers; binds = o.rows.binds }; reply = o.reply }

-- the step of a command: the row after it, and its reply
abbrev pub commanded : Tenancy → Command → Row → CommandOutcome
commanded tenancy (Load text) row = load_read tenancy.budgets (length text) row (program_of text)
commanded tenancy (Replace text) row = replace_read tenancy.budgets (length text) row (program_of text)
commanded tenancy Start row = if is_running row then refused row Running else start_program row row.program
commanded tenancy Stop row = stop_program row
commanded tenancy ShowMode row = record { row = row; reply = Mode (status_of row) }
commanded tenancy (ShowPort x) row = show_port x row row.program
commanded tenancy ShowAll row = show_all row row.program
commanded tenancy command.Trace row = show_trace tenancy.budgets.trace row
commanded tenancy (Grants c) row = with_grants row (grants_commanded c (grant_rows tenancy.owner row))

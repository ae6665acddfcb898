-- Which commands are questions, and the reply to one of them.
use Rattle.std.specs.Prelude.{◌≡◌, Bool, true, false, ℤ, Result, Ok, Err}
use Rattle.rig_model.specs.declared.lines.commands.Command.{Command}
use Rattle.rig_model.specs.declared.lines.commands.Command.TheVariants.{Load, Replace, Start, Stop, ShowMode, ShowPort, ShowAll, Grants}
use Rattle.rig_model.specs.declared.lines.commands.Command.TheVariants as command
use Rattle.rig_model.specs.declared.lines.grant_lines.GrantCommand.{GrantCommand}
use Rattle.rig_model.specs.declared.lines.grant_lines.GrantCommand.TheVariants as about
use Rattle.rig_model.specs.declared.lines.ports.PortName.{PortName}
use Rattle.rig_model.specs.declared.lines.replies.Refusal.{Refusal}
use Rattle.rig_model.specs.declared.lines.replies.Reply.{Reply}
use Rattle.rig_model.specs.declared.lines.replies.Reply.TheVariants.{Port, Refused}
use Rattle.rig_model.specs.Commands.{commanded}
use Rattle.instant_engine.specs.state.Standing.{Standing}

-- whether a command about grants asks for the rows
abbrev pub asks_for_rows : GrantCommand → Bool
asks_for_rows (about.Offer a t bounds) = false
asks_for_rows (about.Unoffer a t) = false
asks_for_rows (about.Bind s t a) = false
asks_for_rows (about.Unbind s) = false
asks_for_rows about.Rows = true

-- whether a command asks and changes nothing: "show mode", "show port", "show all", "trace" or "rows"
abbrev pub is_question : Command → Bool
is_question (Load text) = false
is_question (Replace text) = false
is_question Start = false
is_question Stop = false
is_question ShowMode = true
is_question (ShowPort x) = true
is_question ShowAll = true
is_question command.Trace = true
is_question (Grants c) = asks_for_rows c

-- this command leaves the tenant's row as it was: it is a question, or it is refused
abbrev pub LeavesRow : Standing → Command → Type 0
LeavesRow tenant c = (commanded tenant.tenancy c tenant.row).row ≡ tenant.row

-- the reply to "show port", from the port's value or the reason why there is none
abbrev pub reply_of_port : PortName → Result ℤ Refusal → Reply
reply_of_port port (Ok z) = Port (record { port = port; value = z })
reply_of_port port (Err r) = Refused r

-- Which commands have a text that is shared when they are copied, and which replies take memory to copy.
use Rattle.std.specs.Prelude.{Bool, false, nat_lt, length}
use Rattle.tenant_lines.specs.declared.commands.Command.{Command}
use Rattle.tenant_lines.specs.declared.commands.Command.TheVariants as command
use Rattle.tenant_lines.specs.declared.replies.Reply.{Reply}
use Rattle.tenant_lines.specs.declared.replies.Reply.TheVariants as reply

-- the commands with a program's text of at least one byte
abbrev pub has_text : Command → Bool
has_text (command.Load text) = nat_lt 0 (length text)
has_text (command.Replace text) = nat_lt 0 (length text)
has_text command.Start = false
has_text command.Stop = false
has_text command.ShowMode = false
has_text (command.ShowPort port) = false
has_text command.ShowAll = false
has_text command.Trace = false
has_text (command.Grants about) = false

-- the replies to "show all", "trace" and "rows" that list at least one port, record or row
abbrev pub has_list : Reply → Bool
has_list reply.Loaded = false
has_list reply.Replaced = false
has_list reply.Started = false
has_list reply.Stopped = false
has_list (reply.Mode status) = false
has_list (reply.Port port) = false
has_list (reply.All ports) = nat_lt 0 (length ports)
has_list (reply.Trace records) = nat_lt 0 (length records)
has_list reply.Offered = false
has_list reply.Unoffered = false
has_list reply.Bound = false
has_list reply.Unbound = false
has_list (reply.Rows rows) = nat_lt 0 (length rows)
has_list (reply.Refused refusal) = false

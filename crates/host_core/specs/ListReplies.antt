-- Which replies are lists.
use Rattle.std.specs.Prelude.{Bool, true, false}
use Rattle.rig_model.specs.declared.lines.replies.Reply.{Reply}
use Rattle.rig_model.specs.declared.lines.replies.Reply.TheVariants.{Loaded, Replaced, Started, Stopped, Mode, Port, All, Offered, Unoffered, Bound, Unbound, Rows, Refused}
use Rattle.rig_model.specs.declared.lines.replies.Reply.TheVariants as reply

-- whether it is the reply to "show all", "trace" or "rows" that lists ports, records or rows
abbrev pub is_list : Reply → Bool
is_list Loaded = false
is_list Replaced = false
is_list Started = false
is_list Stopped = false
is_list (Mode status) = false
is_list (Port port) = false
is_list (All ports) = true
is_list (reply.Trace records) = true
is_list Offered = false
is_list Unoffered = false
is_list Bound = false
is_list Unbound = false
is_list (Rows rows) = true
is_list (Refused refusal) = false

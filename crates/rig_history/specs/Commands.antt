-- The line of a command, as a tenant writes it: without the tenant's name, and without LF.
use Rattle.std.specs.Prelude.{ℕ, ◌^◌, nat_lt, Bool, true, ◌&&◌, ℤ, pos, negsuc, List, [], ◌++◌, Option, None, Some, codes}
use Rattle.std.specs.Fmt.{signed_decimal}
use Rattle.std.specs.Option.{option_map_or}
use Rattle.rig_model.specs.config.Intervals.{Interval, is_in_order}
use Rattle.rig_model.specs.declared.lines.commands.Command.{Command}
use Rattle.rig_model.specs.declared.lines.commands.Command.TheVariants.{Load, Replace, Start, Stop, ShowMode, ShowPort, ShowAll, Trace, Grants}
use Rattle.rig_model.specs.declared.lines.grant_lines.GrantCommand.{GrantCommand}
use Rattle.rig_model.specs.declared.lines.grant_lines.GrantCommand.TheVariants.{Offer, Unoffer, Bind, Unbind, Rows}
use Rattle.rig_model.specs.declared.lines.ports.PortName.{PortName}
use Rattle.rig_model.specs.lines.Replies.{text_of_port}
use Rattle.rig_model.specs.text.Bytes.{is_name}

-- " from LO to HI"; nothing if the offer has no bounds
abbrev pub text_of_bounds : Option Interval → List ℕ
text_of_bounds None = []
text_of_bounds (Some i) = codes " from " ++ (signed_decimal i.low ++ (codes " to " ++ signed_decimal i.high))

-- the line of a command about grants
abbrev pub text_of_grant_command : GrantCommand → List ℕ
text_of_grant_command (Offer a t bounds) = codes "offer " ++ (a ++ (codes " to " ++ (t ++ text_of_bounds bounds)))
text_of_grant_command (Unoffer a t) = codes "unoffer " ++ (a ++ (codes " to " ++ t))
text_of_grant_command (Bind s t a) = codes "bind " ++ (s ++ (codes " from " ++ (t ++ (codes "." ++ a))))
text_of_grant_command (Unbind s) = codes "unbind " ++ s
text_of_grant_command Rows = codes "rows"

-- the line of a command
abbrev pub text_of_command : Command → List ℕ
text_of_command (Load text) = codes "load " ++ text
text_of_command (Replace text) = codes "replace " ++ text
text_of_command Start = codes "start"
text_of_command Stop = codes "stop"
text_of_command ShowMode = codes "show mode"
text_of_command (ShowPort x) = codes "show port " ++ text_of_port x
text_of_command ShowAll = codes "show all"
text_of_command Trace = codes "trace"
text_of_command (Grants c) = text_of_grant_command c

-- a value fits an i64
abbrev pub is_value : ℤ → Bool
is_value (pos n) = nat_lt n (2 ^ 63)
is_value (negsuc n) = nat_lt n (2 ^ 63)

-- the bounds of an offer, if it has any: two values, the first not above the second
abbrev pub are_bounds : Option Interval → Bool
are_bounds None = true
are_bounds (Some i) = is_value i.low && is_value i.high && is_in_order i

-- the parts of a port's name have the shape of names
abbrev pub is_port : PortName → Bool
is_port x = option_map_or is_name x.task true && is_name x.name

-- all names in a command about grants have the shape of names, and its bounds are bounds of an offer
abbrev pub is_grant_line : GrantCommand → Bool
is_grant_line (Offer a t bounds) = is_name a && is_name t && are_bounds bounds
is_grant_line (Unoffer a t) = is_name a && is_name t
is_grant_line (Bind s t a) = is_name s && is_name t && is_name a
is_grant_line (Unbind s) = is_name s
is_grant_line Rows = true

-- the same for any command: a tenant can write its line
abbrev pub is_line : Command → Bool
is_line (Load text) = true
is_line (Replace text) = true
is_line Start = true
is_line Stop = true
is_line ShowMode = true
is_line (ShowPort x) = is_port x
is_line ShowAll = true
is_line Trace = true
is_line (Grants c) = is_grant_line c

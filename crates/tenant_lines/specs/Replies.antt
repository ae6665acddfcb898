-- The text of each reply.
use Rattle.std.specs.Prelude.{ℕ, List, [], ◌++◌, codes, if◌then◌else◌}
use Rattle.std.specs.Fmt.{decimal, signed_decimal}
use Rattle.std.specs.List.{flat_map}
use Rattle.std.specs.Option.{option_map_or}
use Rattle.giotto_text.specs.PortNames.{own_port}
use Rattle.tenant_grants.specs.config.Intervals.{Interval, is_whole}
use Rattle.tenant_grants.specs.declared.rows.Row.{Row}
use Rattle.tenant_grants.specs.declared.rows.Row.TheVariants as row
use Rattle.tenant_trace.specs.declared.records.Happening.{Happening}
use Rattle.tenant_trace.specs.declared.records.Happening.TheVariants as happening
use Rattle.tenant_trace.specs.declared.records.Record.{Record}
use Rattle.tenant_lines.specs.declared.ports.PortName.{PortName}
use Rattle.tenant_lines.specs.declared.ports.PortValue.{PortValue}
use Rattle.tenant_lines.specs.declared.replies.Budget.{Budget}
use Rattle.tenant_lines.specs.declared.replies.Budget.TheVariants.{Bytes, Ports, Tasks, Modes, Steps, Lines, Offers, Binds}
use Rattle.tenant_lines.specs.declared.replies.Refusal.{Refusal}
use Rattle.tenant_lines.specs.declared.replies.Refusal.TheVariants.{BadCommand, Syntax, TooDeep, TooMany, Rule, Running, NotRunning, NotLoaded, NoPort, NoTenant, Own, Twice, NotThere, OverBudget, Memory}
use Rattle.tenant_lines.specs.declared.replies.Reply.{Reply}
use Rattle.tenant_lines.specs.declared.replies.Reply.TheVariants.{Loaded, Replaced, Started, Stopped, Mode, Port, All, Trace, Offered, Unoffered, Bound, Unbound, Rows, Refused}
use Rattle.tenant_lines.specs.declared.replies.Status.{Status}
use Rattle.tenant_lines.specs.declared.replies.Status.TheVariants as status

-- the word of a budget in a reply
abbrev pub word_of_budget : Budget → List ℕ
word_of_budget Bytes = codes "bytes"
word_of_budget Ports = codes "ports"
word_of_budget Tasks = codes "tasks"
word_of_budget Modes = codes "modes"
word_of_budget Steps = codes "steps"
word_of_budget Lines = codes "lines"
word_of_budget Offers = codes "offers"
word_of_budget Binds = codes "binds"

-- what follows "err "; a number is in decimal
abbrev pub text_of_refusal : Refusal → List ℕ
text_of_refusal BadCommand = codes "bad-command"
text_of_refusal (Syntax n) = codes "syntax " ++ decimal n
text_of_refusal TooDeep = codes "syntax deep"
text_of_refusal TooMany = codes "syntax many"
text_of_refusal (Rule n) = codes "rule " ++ decimal n
text_of_refusal Running = codes "running"
text_of_refusal NotRunning = codes "not-running"
text_of_refusal NotLoaded = codes "not-loaded"
text_of_refusal NoPort = codes "no-port"
text_of_refusal NoTenant = codes "no-tenant"
text_of_refusal Own = codes "own"
text_of_refusal Twice = codes "twice"
text_of_refusal NotThere = codes "not-there"
text_of_refusal (OverBudget b) = codes "budget " ++ word_of_budget b
text_of_refusal Memory = codes "memory"

-- the name of a port as it is printed: NAME, or TASK.NAME
abbrev pub text_of_port : PortName → List ℕ
text_of_port x = option_map_or (λ t. own_port t x.name) x.task x.name

-- " P=V"
abbrev pub text_of_value : PortValue → List ℕ
text_of_value v = codes " " ++ (text_of_port v.port ++ (codes "=" ++ signed_decimal v.value))

-- what a record says after its tick
abbrev pub text_of_happening : Happening → List ℕ
text_of_happening (happening.Start m) = codes "start:" ++ m
text_of_happening (happening.Mode m) = codes "mode:" ++ m
text_of_happening (happening.Act a v) = codes "act:" ++ (a ++ (codes ":" ++ signed_decimal v))
text_of_happening (happening.Out o v) = codes "out:" ++ (o ++ (codes ":" ++ signed_decimal v))
text_of_happening happening.Asked = codes "stop:asked"
text_of_happening (happening.Overrun t) = codes "stop:overrun:" ++ t
text_of_happening (happening.Replaced m) = codes "replaced:" ++ m

-- " N:" and what happened, N the tick
abbrev pub text_of_record : Record → List ℕ
text_of_record r = codes " " ++ (decimal r.tick ++ (codes ":" ++ text_of_happening r.happening))

-- ":LO:HI"; nothing if all values are within these bounds
abbrev pub text_of_bounds : Interval → List ℕ
text_of_bounds i = if is_whole i then [] else codes ":" ++ (signed_decimal i.low ++ (codes ":" ++ signed_decimal i.high))

-- " offer:ACTUATOR:TENANT" with its bounds, or " bind:SENSOR:TENANT:ACTUATOR"
abbrev pub text_of_row : Row → List ℕ
text_of_row (row.Offer o) = codes " offer:" ++ (o.actuator ++ (codes ":" ++ (o.tenant ++ text_of_bounds o.bounds)))
text_of_row (row.Bind b) = codes " bind:" ++ (b.sensor ++ (codes ":" ++ (b.tenant ++ (codes ":" ++ b.actuator))))

-- what follows "ok mode "
abbrev pub text_of_status : Status → List ℕ
text_of_status status.Empty = codes "empty"
text_of_status (status.Loaded m) = codes "loaded " ++ m
text_of_status (status.Running m x) = codes "running " ++ (m ++ (codes " " ++ decimal x))
text_of_status status.StoppedAsked = codes "stopped asked"
text_of_status (status.StoppedOverrun t) = codes "stopped overrun " ++ t

-- the text of a reply: "ok ..", or "err " and why
abbrev pub text_of_reply : Reply → List ℕ
text_of_reply Loaded = codes "ok load"
text_of_reply Replaced = codes "ok replace"
text_of_reply Started = codes "ok start"
text_of_reply Stopped = codes "ok stop"
text_of_reply (Mode s) = codes "ok mode " ++ text_of_status s
text_of_reply (Port v) = codes "ok port " ++ (text_of_port v.port ++ (codes " " ++ signed_decimal v.value))
text_of_reply (All vs) = codes "ok all" ++ flat_map text_of_value vs
text_of_reply (Trace rs) = codes "ok trace" ++ flat_map text_of_record rs
text_of_reply Offered = codes "ok offer"
text_of_reply Unoffered = codes "ok unoffer"
text_of_reply Bound = codes "ok bind"
text_of_reply Unbound = codes "ok unbind"
text_of_reply (Rows rs) = codes "ok rows" ++ flat_map text_of_row rs
text_of_reply (Refused r) = codes "err " ++ text_of_refusal r

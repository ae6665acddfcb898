-- What is reported of the lines of a script: why each was refused, if it was, and the overruns at the instant that it gave; and their replies.
use Rattle.std.specs.Prelude.{ℕ, zero, suc, ◌+◌, ◌==◌, if◌then◌else◌, List, [], ◌∷◌, ◌++◌, length, Option, Some, None, codes}
use Rattle.std.specs.Option.{option_map}
use Rattle.giotto_tasks.specs.declared.names.Name.{Name}
use Rattle.rig_model.specs.config.Roster.{name_at}
use Rattle.rig_model.specs.Base.{Setting}
use Rattle.rig_model.specs.Host.{host_after}
use Rattle.rig_model.specs.HostState.{row_at}
use Rattle.rig_model.specs.Legal.{next_tick}
use Rattle.rig_model.specs.Row.{Row, TenantState, StopReason, empty, loaded, running, stopped, asked, overrun, is_running}
use Rattle.rig_model.specs.Script.{past_behind, reply_to_line}
use Rattle.rig_model.specs.TextLines.{cut}
use Rattle.rig_model.specs.declared.events.Event.{Event}
use Rattle.rig_script.specs.Given.{bad_line_of, number_behind, texts_of}
use Rattle.rig_script.specs.cited.Refusals.{refusal_in}
use Rattle.script_reports.specs.cited.Runs.{line_in}
use Rattle.script_reports.specs.cited.Reports.{ReportedLine, report_on_end, report_on_lines}
use Rattle.script_reports.specs.declared.reports.Overrun.{Overrun}

-- the task whose overrun stopped a tenant, if one did
abbrev pub missed_task : Row → Option Name
missed_task row = by row.state
  where
    stopped_by : StopReason → Option Name
    stopped_by asked = None
    stopped_by (overrun x) = Some x

    by : TenantState → Option Name
    by empty = None
    by loaded = None
    by running = None
    by (stopped reason) = stopped_by reason

-- the overrun of a tenant with this name, by its rows before and after an instant: it ran, and is stopped because a task missed its deadline
abbrev pub overrun_of : Name → Row → Row → Option Overrun
overrun_of who before after = if is_running before then option_map (λ (x : Name). record { tenant = who; task = x }) (missed_task after) else None

-- a list of one overrun or none
abbrev pub listed : Option Overrun → List Overrun
listed None = []
listed (Some o) = o ∷ []

module _ (setting : Setting) where
  -- the row of the tenant at place t after these events
  abbrev pub row_after : List Event → ℕ → Row
  row_after past t = row_at (host_after setting past) t

  -- the overruns of the first n tenants of the roster between two places
  abbrev pub overruns_up_to : List Event → List Event → ℕ → List Overrun
  overruns_up_to before after zero = []
  overruns_up_to before after (suc t) = overruns_up_to before after t ++ listed (overrun_of (name_at setting.config t) (row_after before t) (row_after after t))

  -- the overruns at the instant that a line gave; none if it gave no instant
  abbrev pub overruns_between : List Event → List Event → List Overrun
  overruns_between before after = if next_tick setting after == next_tick setting before then [] else overruns_up_to before after (length setting.config.tenants)

  -- what is reported of a line of this text after `n` others, if `past` are the events so far: the next number, why the rig refuses it there,
  -- if it does, and the overruns at its instant
  abbrev pub reported_line : List Event → ℕ → List ℕ → ReportedLine
  reported_line past n text =
      record { number = number_behind n; text = text; refusal = refusal_in (reply_to_line setting past text); overruns = overruns_between past (past_behind setting past text) }

  -- what is reported of lines of these texts after `n` others
  abbrev pub reported_from : List Event → ℕ → List (List ℕ) → List ReportedLine
  reported_from past n [] = []
  reported_from past n (text ∷ texts) = reported_line past n text ∷ reported_from (past_behind setting past text) (n + 1) texts

  -- the replies to lines of these texts, each without its LF
  abbrev pub replies_from : List Event → List (List ℕ) → List (List ℕ)
  replies_from past [] = []
  replies_from past (text ∷ texts) = line_in (reply_to_line setting past text) ∷ replies_from (past_behind setting past text) texts

  -- what is reported of the lines of a script
  abbrev pub reported_of : List ℕ → List ReportedLine
  reported_of bytes = reported_from [] 0 (texts_of (cut bytes))

-- the replies to the lines of a script, each without its LF
abbrev pub replies_to : Setting → List (List ℕ) → List (List ℕ)
replies_to setting texts = replies_from setting [] texts

-- what is reported of the line with this number that ended a script, if one did
abbrev pub report_on_bad_line : Option ℕ → List ℕ
report_on_bad_line None = []
report_on_bad_line (Some number) = report_on_end number

-- the reply to the line with this number that ended a script, if one did
abbrev pub reply_to_bad_line : Option ℕ → List (List ℕ)
reply_to_bad_line None = []
reply_to_bad_line (Some number) = codes "host bye bad-line" ∷ []

-- the report of a script: what is reported of its lines, and of the one that ends it
abbrev pub report_of : Setting → List ℕ → List ℕ
report_of setting bytes = report_on_lines (reported_of setting bytes) ++ report_on_bad_line (bad_line_of (cut bytes))

-- the replies to the lines of a script, and the reply to the line that ends it, each without its LF
abbrev pub replies_of : Setting → List ℕ → List (List ℕ)
replies_of setting bytes = replies_to setting (texts_of (cut bytes)) ++ reply_to_bad_line (bad_line_of (cut bytes))

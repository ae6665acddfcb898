-- The text that answers a script.
use Rattle.std.specs.Prelude.{ℕ, zero, suc, ◌-◌, ◌^◌, nat_lt, not, ◌==◌, if◌then◌else◌, ℤ, List, [], ◌∷◌, ◌++◌, length, map, filter, reverse, Option, Some, None, codes}
use Rattle.std.specs.List.{flat_map, enumerate_from}
use Rattle.std.specs.Fmt.{decimal, signed_decimal}
use Rattle.giotto_tasks.specs.declared.names.Name.{Name}
use Rattle.giotto_tasks.specs.Names.{same_name}
use Rattle.rig_model.specs.declared.events.Event.{Event}
use Rattle.rig_model.specs.declared.events.Event.TheVariants.{Own, Tick, Done}
use Rattle.rig_model.specs.declared.jobs.JobId.{JobId}
use Rattle.tenant_lines.specs.declared.config.TenantConfig.{TenantConfig}
use Rattle.tenant_lines.specs.declared.commands.Command.{Command}
use Rattle.tenant_lines.specs.declared.replies.Refusal.TheVariants.{BadCommand}
use Rattle.tenant_lines.specs.config.Roster.{Rig, place_of}
use Rattle.tenant_lines.specs.CommandLine.{command_of_line}
use Rattle.tenant_lines.specs.Replies.{text_of_reply, text_of_refusal}
use Rattle.tenant_lines.specs.Words.{words_of, first_word_of, behind_first_word}
use Rattle.rig_model.specs.Completions.{has_completion}
use Rattle.rig_model.specs.Jobs.{job_of}
use Rattle.rig_model.specs.Legal.{next_tick}
use Rattle.rig_model.specs.LineValues.{value_of_line}
use Rattle.rig_model.specs.OperatorLines.{OperatorForm, blank, tick, line_values, work, work_of, settle, archive, halt, bad_command, operator_line_of}
use Rattle.rig_model.specs.Base.{Setting}
use Rattle.rig_model.specs.Views.{after_command, row_of}
use Rattle.rig_model.specs.declared.speakers.Speaker.{Speaker}
use Rattle.rig_model.specs.declared.speakers.Speaker.TheVariants.{Nobody, Operator, Tenant, Unknown}
use Rattle.rig_model.specs.Answered.{reply_line, err_memory, answered, state_after}
use Rattle.rig_model.specs.TextLines.{cut}

-- the first word of the operator's lines
abbrev pub operator : List ℕ
operator = codes "op"

-- A line begins with its speaker: `op` for the operator, or a tenant's name.
abbrev pub speaker_of : Rig → List ℕ → Speaker
speaker_of config line = by (first_word_of line)
  where
    of_place : Option ℕ → Speaker
    of_place None = Unknown
    of_place (Some t) = Tenant t

    by : List ℕ → Speaker
    by [] = Nobody
    by (c ∷ cs) = if same_name (c ∷ cs) operator then Operator else of_place (place_of config (c ∷ cs))

abbrev pub operator_refusal : List ℕ → List ℕ
operator_refusal why = reply_line operator (codes "err " ++ why)

-- the addressee of the reply to a line, by the line's speaker: its first word, or "host" if nobody has that name
abbrev pub addressee_of : Speaker → List ℕ → List ℕ
addressee_of Nobody line = first_word_of line
addressee_of Operator line = first_word_of line
addressee_of (Tenant t) line = first_word_of line
addressee_of Unknown line = codes "host"

abbrev pub err_who : List ℕ
err_who = reply_line (codes "host") (codes "err who")

-- what a line does: the events that it adds, the newest first, and its reply
pub record Step : Type 0 where
  pub events : List Event
  pub reply : List ℕ

abbrev pub only_answered : List ℕ → Step
only_answered reply = record { events = []; reply = reply }

-- runs and completes the jobs that are outstanding, in their order
abbrev pub work_step : List JobId → Step
work_step jobs = record { events = reverse (map Done jobs); reply = reply_line operator (codes "ok work " ++ decimal (length jobs)) }

-- the values of the first n lines of the rig, each after a space
abbrev pub text_of_lines : (ℕ → ℤ) → ℕ → List ℕ
text_of_lines value zero = []
text_of_lines value (suc k) = text_of_lines value k ++ (codes " " ++ signed_decimal (value k))

module _ (setting : Setting) where
  -- the outstanding jobs of a tenant: its active tasks' jobs that have no completion yet
  abbrev pub outstanding_at : List Event → ℕ → List JobId
  outstanding_at past t = filter (λ j. not (has_completion setting past j)) (map (job_of t) (row_of setting past t).active)

  -- those of all tenants, in the order of the roster
  abbrev pub outstanding_after : List Event → List JobId
  outstanding_after past = flat_map (λ (place : ℕ × TenantConfig). outstanding_at past place.0) (enumerate_from 0 setting.config.tenants)

  -- `work` of one tenant, by its name
  abbrev pub work_step_of : List Event → Name → Step
  work_step_of past x = by (place_of setting.config x)
    where
      by : Option ℕ → Step
      by None = only_answered (operator_refusal (codes "who"))
      by (Some t) = work_step (outstanding_at past t)

  abbrev pub tick_step : List Event → List ℤ → Step
  tick_step past frame =
      if not (length frame == setting.config.lines) then only_answered (operator_refusal (codes "bad-frame"))
      else (if not (nat_lt (next_tick setting past) (2 ^ 64 - 1)) then only_answered (operator_refusal (codes "clock-ended"))
      else record { events = Tick frame ∷ []; reply = reply_line operator (codes "ok tick " ++ decimal (next_tick setting past)) })

  -- `lines`: the value of each line of the rig
  abbrev pub lines_step : List Event → Step
  lines_step past = only_answered (reply_line operator (codes "ok lines" ++ text_of_lines (value_of_line setting.config (row_of setting past)) setting.config.lines))

  abbrev pub operator_step : List Event → List (List ℕ) → Step
  operator_step past words = by (operator_line_of words)
    where
      refused : Step
      refused = only_answered (operator_refusal (text_of_refusal BadCommand))

      by : OperatorForm → Step
      by blank = refused
      by (tick frame) = tick_step past frame
      by line_values = lines_step past
      by work = work_step (outstanding_after past)
      by (work_of x) = work_step_of past x
      by settle = refused
      by archive = refused
      by halt = refused
      by bad_command = refused

  -- a tenant's line: its command, answered as the one-tenant machine answers it
  abbrev pub tenant_step : List Event → ℕ → Name → List ℕ → Step
  tenant_step past t who line = by (command_of_line line)
    where
      by : Option Command → Step
      by None = only_answered (reply_line who (codes "err " ++ text_of_refusal BadCommand))
      by (Some c) = record { events = Own t c ∷ []; reply = reply_line who (text_of_reply (after_command setting t c (row_of setting past t)).reply) }

  -- a blank line has no reply
  abbrev pub line_step : List Event → List ℕ → Step
  line_step past line = by (speaker_of setting.config line)
    where
      by : Speaker → Step
      by Nobody = only_answered []
      by Operator = operator_step past (words_of (behind_first_word line))
      by (Tenant t) = tenant_step past t (first_word_of line) (behind_first_word line)
      by Unknown = only_answered err_who

  abbrev pub reply_to_line : List Event → List ℕ → List ℕ
  reply_to_line past line = (line_step past line).reply

  -- what is written when there is no memory for the reply to a line
  abbrev pub memory_reply : List ℕ → List ℕ
  memory_reply line = err_memory (addressee_of (speaker_of setting.config line) line)

  -- the events after a line, the newest first
  abbrev pub past_behind : List Event → List ℕ → List Event
  past_behind past line = (line_step past line).events ++ past

  -- the events after these lines, the newest first
  abbrev pub past_after : List Event → List (List ℕ) → List Event
  past_after past lines = state_after reply_to_line past_behind past lines

  -- what is written for these lines after the events of the past
  abbrev pub script_from : List Event → List (List ℕ) → List ℕ
  script_from past lines = answered reply_to_line past_behind past lines

  -- what is written for these bytes
  abbrev pub script_text_of : List ℕ → List ℕ
  script_text_of bytes = script_from [] (cut bytes)

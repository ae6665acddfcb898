-- The text that answers a session, and the calls that the session makes.
use Rattle.std.specs.Prelude.{ℕ, if◌then◌else◌, List, [], ◌∷◌, ◌++◌, drop, Option, Some, None, codes}
use Rattle.std.specs.Option.{option_map}
use Rattle.giotto_tasks.specs.declared.names.Name.{Name}
use Rattle.giotto_tasks.specs.Names.{same_name}
use Rattle.giotto_rules.specs.text.Bytes.{is_name}
use Rattle.tenant_lines.specs.config.Roster.{Rig, greeted}
use Rattle.rig_model.specs.TextLines.{text_of_line}
use Rattle.rig_model.specs.declared.logged.Call.{Call}
use Rattle.tenant_lines.specs.CommandLine.{command_of_line}
use Rattle.tenant_lines.specs.Replies.{text_of_reply}
use Rattle.tenant_lines.specs.Words.{words_of}
use Rattle.tenant_lines.specs.declared.commands.Command.{Command}
use Rattle.tenant_lines.specs.declared.replies.Refusal.TheVariants.{BadCommand, Memory}
use Rattle.tenant_lines.specs.declared.replies.Reply.{Reply}
use Rattle.tenant_lines.specs.declared.replies.Reply.TheVariants.{Refused}

-- a line of a session
pub data SessionLine : Type 0 where
  blank : SessionLine
  -- a tenant's name and its key
  hello : Name → List ℕ → SessionLine
  quit : SessionLine
  -- a command of the greeted tenant
  ask : Command → SessionLine

-- after "hello": NAME KEY
abbrev pub hello_of : List (List ℕ) → Option SessionLine
hello_of [] = None
hello_of (x ∷ []) = None
hello_of (x ∷ key ∷ []) = if is_name x then Some (hello x key) else None
hello_of (x ∷ key ∷ w ∷ ws) = None

-- after "quit": nothing
abbrev pub quit_of : List (List ℕ) → Option SessionLine
quit_of [] = Some quit
quit_of (w ∷ ws) = None

-- "hello NAME KEY" or "quit", or else a command
abbrev pub line_of_words : List ℕ → List (List ℕ) → Option SessionLine
line_of_words line [] = Some blank
line_of_words line (w ∷ ws) =
    if same_name w (codes "hello") then hello_of ws
    else (if same_name w (codes "quit") then quit_of ws else option_map ask (command_of_line line))

abbrev pub session_line_of : List ℕ → Option SessionLine
session_line_of line = line_of_words line (words_of line)

-- the state of a session: which tenant was greeted, if any
pub data State : Type 0 where
  -- no tenant was greeted yet
  stranger : State
  -- the tenant at this place of the roster was greeted
  tenant : ℕ → State
  -- the session has ended
  ended : State

-- the session's own replies
abbrev pub ok_hello : List ℕ
ok_hello = codes "ok hello"

abbrev pub err_bad_command : List ℕ
err_bad_command = text_of_reply (Refused BadCommand)

abbrev pub err_not_greeted : List ℕ
err_not_greeted = codes "err not-greeted"

abbrev pub err_greeted : List ℕ
err_greeted = codes "err greeted"

-- the reply for an unknown tenant and for a wrong key
abbrev pub err_who : List ℕ
err_who = codes "err who"

abbrev pub bye : List ℕ
bye = codes "bye"

-- to a line that is too long or not UTF-8
abbrev pub bye_bad_line : List ℕ
bye_bad_line = codes "bye bad-line"

-- what a line does
pub data Act : Type 0 where
  quiet : Act
  -- the session's own reply
  say : List ℕ → Act
  -- a tenant's command
  call : ℕ → Command → Act

-- what a line does, and the state after it
pub record Step : Type 0 where
  pub act : Act
  pub state : State

abbrev pub says : List ℕ → State → Step
says reply s = record { act = say reply; state = s }

abbrev pub stays_quiet : State → Step
stays_quiet s = record { act = quiet; state = s }

-- the outcome of a call
pub data Outcome : Type 0 where
  -- it is made, with this reply
  replied : Reply → Outcome
  -- the same, but there is no memory for the reply's text
  untold : Reply → Outcome
  -- it isn't made, since there is no memory for it
  no_memory : Outcome
  -- it is refused, since its pass is full
  pass_full : Outcome
  -- it is refused, since its pass isn't known
  strange : Outcome

abbrev pub text_of_outcome : Outcome → List ℕ
text_of_outcome (replied r) = text_of_reply r
text_of_outcome (untold r) = text_of_reply (Refused Memory)
text_of_outcome no_memory = text_of_reply (Refused Memory)
text_of_outcome pass_full = codes "bye pass-full"
text_of_outcome strange = codes "bye strange"

-- the calls that one call makes: itself, if it is made
abbrev pub calls_by : ℕ → Command → Outcome → List Call
calls_by t c (replied r) = record { tenant = t; command = c; reply = r } ∷ []
calls_by t c (untold r) = record { tenant = t; command = c; reply = r } ∷ []
calls_by t c no_memory = []
calls_by t c pass_full = []
calls_by t c strange = []

-- the state after a call, given the state of the call's step: a refused call ends the session
abbrev pub state_by : State → Outcome → State
state_by s (replied r) = s
state_by s (untold r) = s
state_by s no_memory = s
state_by s pass_full = ended
state_by s strange = ended

-- the first of these outcomes; if there is none, there is no memory
abbrev pub first_outcome : List Outcome → Outcome
first_outcome [] = no_memory
first_outcome (o ∷ os) = o

-- a session so far
pub record Session : Type 0 where
  pub state : State
  -- the outcomes of the calls still to come, in their order
  pub outcomes : List Outcome
  -- the calls that were made, with their replies
  pub calls : List Call
  -- what was written
  pub text : List ℕ

-- a new session
abbrev pub begun : List Outcome → Session
begun outcomes = record { state = stranger; outcomes = outcomes; calls = []; text = [] }

-- a reply as it is written
abbrev pub written : List ℕ → List ℕ
written reply = reply ++ 10 ∷ []

-- a session after a step
abbrev pub behind_step : Session → Step → Session
behind_step s step = by step.act
  where
    by : Act → Session
    by quiet = record { state = step.state; outcomes = s.outcomes; calls = s.calls; text = s.text }
    by (say reply) = record { state = step.state; outcomes = s.outcomes; calls = s.calls; text = s.text ++ written reply }
    by (call t c) = record {
      state = state_by step.state (first_outcome s.outcomes);
      outcomes = drop 1 s.outcomes;
      calls = s.calls ++ calls_by t c (first_outcome s.outcomes);
      text = s.text ++ written (text_of_outcome (first_outcome s.outcomes));
    }

module _ (config : Rig) where
  -- the step by the place of the tenant whose name and key the line gives
  abbrev pub hello_step : Option ℕ → Step
  hello_step None = says err_who stranger
  hello_step (Some t) = says ok_hello (tenant t)

  -- the step by the state and the line
  abbrev pub form_step : State → Option SessionLine → Step
  form_step ended line = stays_quiet ended
  form_step stranger None = says err_bad_command stranger
  form_step stranger (Some blank) = stays_quiet stranger
  form_step stranger (Some (hello x key)) = hello_step (greeted config x key)
  form_step stranger (Some quit) = says bye ended
  form_step stranger (Some (ask c)) = says err_not_greeted stranger
  form_step (tenant t) None = says err_bad_command (tenant t)
  form_step (tenant t) (Some blank) = stays_quiet (tenant t)
  form_step (tenant t) (Some (hello x key)) = says err_greeted (tenant t)
  form_step (tenant t) (Some quit) = says bye ended
  form_step (tenant t) (Some (ask c)) = record { act = call t c; state = tenant t }

  -- a line's text
  abbrev pub text_step : State → List ℕ → Step
  text_step s text = form_step s (session_line_of text)

  -- a line that is too long or not UTF-8 ends a session
  abbrev pub line_step : State → Option (List ℕ) → Step
  line_step s (Some text) = text_step s text
  line_step ended None = stays_quiet ended
  line_step stranger None = says bye_bad_line ended
  line_step (tenant t) None = says bye_bad_line ended

  -- a session after a line, and after these lines
  abbrev pub behind_line : Session → List ℕ → Session
  behind_line s line = behind_step s (line_step s.state (text_of_line line))

  abbrev pub behind_lines : Session → List (List ℕ) → Session
  behind_lines s [] = s
  behind_lines s (line ∷ later) = behind_lines (behind_line s line) later

  -- a new session after these lines, if its calls have these outcomes
  abbrev pub session_of : List Outcome → List (List ℕ) → Session
  session_of outcomes lines = behind_lines (begun outcomes) lines

-- The replies to one tenant's commands in the text that answers a script.
use Rattle.std.specs.Prelude.{ℕ, ◌+◌, ◌==◌, ◌&&◌, if◌then◌else◌, Bool, false, is_some, List, [], ◌∷◌, ◌++◌, length, drop, Option, Some, None}
use Rattle.std.specs.Option.{option_map}
use Rattle.rig_model.specs.Base.{Setting}
use Rattle.rig_model.specs.declared.events.Event.{Event}
use Rattle.tenant_lines.specs.CommandLine.{command_of_line}
use Rattle.tenant_lines.specs.Words.{first_word_of, behind_first_word}
use Rattle.rig_model.specs.declared.speakers.Speaker.{Speaker}
use Rattle.rig_model.specs.declared.speakers.Speaker.TheVariants.{Nobody, Operator, Tenant, Unknown}
use Rattle.rig_model.specs.TextLines.{text_of_line}
use Rattle.rig_model.specs.Script.{speaker_of, reply_to_line, past_behind}

module _ (setting : Setting) (t : ℕ) where
  -- the speaker of the line is the tenant at place t, and the line spells a command
  abbrev pub is_own_command : List ℕ → Bool
  is_own_command line = by (speaker_of setting.config line)
    where
      by : Speaker → Bool
      by Nobody = false
      by Operator = false
      by (Tenant u) = u == t && is_some (command_of_line (behind_first_word line))
      by Unknown = false

  -- what is written for a command of the tenant, without the name and the space in front; nothing for any other line
  abbrev pub own_reply : List Event → List ℕ → List ℕ
  own_reply past line = if is_own_command line then drop (length (first_word_of line) + 1) (reply_to_line setting past line) else []

  -- what is written for the tenant's commands among these lines, after the events of the past; it stops at a line that is too long or not
  -- UTF-8
  abbrev pub own_replies : List Event → List (List ℕ) → List ℕ
  own_replies past [] = []
  own_replies past (line ∷ later) = or_none (option_map (λ text. own_reply past text ++ own_replies (past_behind setting past text) later) (text_of_line line))
    where
      or_none : Option (List ℕ) → List ℕ
      or_none None = []
      or_none (Some replies) = replies

-- What some tenants, the members, see of the lines of a script.
use Rattle.std.specs.Prelude.{◌≡◌, ℕ, Bool, true, not, ℤ, List, Option, Some, None, map}
use Rattle.std.specs.Option.{option_and_then, option_map_or}
use Rattle.plant_laws.specs.Seen.{seen_frame}
use Rattle.rig_model.specs.Base.{Setting}
use Rattle.rig_model.specs.DifferingScripts.{without_lines_of}
use Rattle.rig_model.specs.OperatorLines.{OperatorForm, blank, tick, line_values, work, work_of, settle, archive, halt, bad_command, operator_line_of}
use Rattle.rig_model.specs.Script.{past_after, speaker_of}
use Rattle.rig_model.specs.TextLines.{text_of_line}
use Rattle.rig_model.specs.config.Roster.{Rig}
use Rattle.rig_model.specs.declared.events.Event.{Event}
use Rattle.rig_model.specs.declared.speakers.Speaker.{Speaker}
use Rattle.rig_model.specs.declared.speakers.Speaker.TheVariants.{Nobody, Operator, Tenant, Unknown}
use Rattle.rig_model.specs.lines.Words.{words_of, behind_first_word}
use Rattle.tenant_sources.specs.Links.{is_source_of}

-- the frame of the operator's "tick"
abbrev pub frame_of_form : OperatorForm → Option (List ℤ)
frame_of_form blank = None
frame_of_form (tick frame) = Some frame
frame_of_form line_values = None
frame_of_form work = None
frame_of_form (work_of x) = None
frame_of_form settle = None
frame_of_form archive = None
frame_of_form halt = None
frame_of_form bad_command = None

-- the frame of a text, if it is the operator's "tick"
abbrev pub frame_in : Rig → List ℕ → Option (List ℤ)
frame_in config text = by (speaker_of config text)
  where
    by : Speaker → Option (List ℤ)
    by Nobody = None
    by Operator = frame_of_form (operator_line_of (words_of (behind_first_word text)))
    by (Tenant t) = None
    by Unknown = None

-- a line as the members see it: a "tick" by its frame as they see it, any other line as it is
pub data SeenLine : Type 0 where
  seen_tick : List ℤ → SeenLine
  seen_text : List ℕ → SeenLine

module _ (config : Rig) (members : ℕ → Bool) where
  abbrev pub seen_line : List ℕ → SeenLine
  seen_line line = option_map_or (λ frame. seen_tick (seen_frame config members frame)) (option_and_then (frame_in config) (text_of_line line)) (seen_text line)

  -- the lines that the members see: those in which no other tenant speaks
  abbrev pub seen_lines : List (List ℕ) → List SeenLine
  seen_lines lines = map seen_line (without_lines_of config (λ t. not (members t)) lines)

-- Each source that a member has in the first script is a member, and the members see the same of both scripts, which begin after the same events. So
-- the scripts differ only in the lines of other tenants, and in the values of lines of the rig that no member may read.
pub record ScriptsDifferUnseen (setting : Setting) (members : ℕ → Bool) (past : List Event) (lines others : List (List ℕ)) : Type 0 where
  pub closed : (t u : ℕ) → members t ≡ true → is_source_of setting (past_after setting past lines) t u ≡ true → members u ≡ true
  pub same : seen_lines setting.config members lines ≡ seen_lines setting.config members others

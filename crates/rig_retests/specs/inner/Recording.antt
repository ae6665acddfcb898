-- The recorded events and lines of a script.
use Rattle.std.specs.Prelude.{◌≡◌, ℕ, ◌+◌, List, [], ◌∷◌, ◌++◌, length, map, reverse, string_bytes}
use Rattle.rig_model.specs.Base.{Setting}
use Rattle.rig_model.specs.Script.{line_step, past_behind, reply_to_line, speaker_of}
use Rattle.rig_model.specs.TextLines.{cut}
use Rattle.rig_model.specs.declared.events.Event.{Event}
use Rattle.rig_model.specs.declared.speakers.Speaker.{Speaker}
use Rattle.rig_model.specs.declared.speakers.Speaker.TheVariants.{Nobody, Operator, Tenant, Unknown}
use Rattle.rig_retests.specs.declared.recordings.RecordedLine.{RecordedLine}
use Rattle.rig_script.specs.Given.{number_behind, texts_of}
use Rattle.rig_script.specs.cited.Past.{past_of}

-- what is recorded of an answered line
pub record Recorded : Type 0 where
  pub number : ℕ
  pub text : List ℕ
  pub speaker : Speaker
  pub reply : List ℕ
  -- the number of its events
  pub events : ℕ

-- what a recorded line says
abbrev pub recorded_as : RecordedLine → Recorded
recorded_as line =
    record { number = line.number; text = string_bytes line.text; speaker = line.speaker; reply = string_bytes line.reply; events = line.events }

-- the line, or nothing if it is blank
abbrev pub unless_blank : Recorded → List Recorded
unless_blank line = by line.speaker
  where
    by : Speaker → List Recorded
    by Nobody = []
    by Operator = line ∷ []
    by (Tenant t) = line ∷ []
    by Unknown = line ∷ []

module _ (setting : Setting) where
  -- what is recorded of a line of this text after `n` others, if `past` are the events so far
  abbrev pub recorded_line : List Event → ℕ → List ℕ → Recorded
  recorded_line past n text = record {
    number = number_behind n;
    text = text;
    speaker = speaker_of setting.config text;
    reply = reply_to_line setting past text;
    events = length (line_step setting past text).events;
  }

  -- what is recorded of lines of these texts after `n` others
  abbrev pub recorded_from : List Event → ℕ → List (List ℕ) → List Recorded
  recorded_from past n [] = []
  recorded_from past n (text ∷ texts) = unless_blank (recorded_line past n text) ++ recorded_from (past_behind setting past text) (n + 1) texts

  -- what is recorded of the lines of a script
  abbrev pub recorded_of : List ℕ → List Recorded
  recorded_of bytes = recorded_from [] 0 (texts_of (cut bytes))

-- Exactly the events of the lines of these texts were recorded, the oldest first, and exactly these lines.
abbrev pub IsRecorded : Setting → List Event → List RecordedLine → List (List ℕ) → Type 0
IsRecorded setting recorded lines texts =
    (recorded ≡ reverse (past_of setting texts)) × (map recorded_as lines ≡ recorded_from setting [] 0 texts)

-- What a listener of a script hears: each line that was answered, from a new host on.
use Rattle.std.specs.Prelude.{◌≡◌, ◌⊎◌, ℕ, List, [], ◌∷◌, ◌++◌, length, reverse, Option, IfSome}
use Rattle.host_core.specs.HostStanding.{HostStanding}
use Rattle.rig_model.specs.Base.{Setting}
use Rattle.rig_model.specs.Script.{line_step, past_behind, reply_to_line, script_text_of, speaker_of}
use Rattle.rig_script.specs.BrokenOff.{AreBrokenOff}
use Rattle.rig_script.specs.Given.{number_behind}
use Rattle.rig_script.specs.cited.HostAnswers.{IsHostAfter}
use Rattle.rig_script.specs.cited.Past.{past_of}
use Rattle.rig_script.specs.cited.Refusals.{is_refusal}
use Rattle.rig_script.specs.declared.faults.ScriptFault.{ScriptFault}
use Rattle.rig_script.specs.declared.faults.ScriptFault.TheVariants.{Memory}
use Rattle.rig_script.specs.declared.listeners.Answered.{Answered}

-- The line was answered after lines of these texts, which were all lines of the script before it: with its number, its speaker, the reply
-- that the rig gives to it there, whether that is a refusal, and its events.
pub record IsAnsweredAfter (setting : Setting) (texts : List (List ℕ)) (line : Answered) : Type 0 where
  pub number : line.number ≡ number_behind (length texts)
  pub speaker : line.speaker ≡ speaker_of setting.config line.text.now
  pub reply : line.reply.now ≡ reply_to_line setting (past_of setting texts) line.text.now
  pub refused : line.is_refused ≡ is_refusal (reply_to_line setting (past_of setting texts) line.text.now)
  pub events : line.events.items ≡ reverse (line_step setting (past_of setting texts) line.text.now).events

-- A listener hears this line, which the host answered. Whatever lines it had heard before, it has heard these and this one.
abbrev pub HearsLine : (Setting → List (List ℕ) → Type 0) → (Setting → List (List ℕ) → Type 0) → HostStanding → Answered → Type 0
HearsLine Before After host line = (setting : Setting) (texts : List (List ℕ)) → Before setting texts → IsAnsweredAfter setting texts line
    → IsHostAfter setting host (past_behind setting (past_of setting texts) line.text.now) → After setting (texts ++ line.text.now ∷ [])

-- `Holds` in each setting in which this host is new, for the bytes that a reader is known to have
abbrev pub ForHostReading : HostStanding → Option (List ℕ) → (Setting → List ℕ → Type 0) → Type 0
ForHostReading host known Holds = (setting : Setting) → IsHostAfter setting host [] → IfSome known (Holds setting)

-- What was written for these bytes before a fault, by what the reader has left. If there was no memory for the listener, all of it.
abbrev pub IsHeardBrokenOff : Option (List ℕ) → (List ℕ → Type 0) → ScriptFault → Setting → List ℕ → Type 0
IsHeardBrokenOff left Written fault setting bytes =
    AreBrokenOff left Written fault setting [] bytes ⊎ ((fault ≡ Memory) × Written (script_text_of setting bytes))

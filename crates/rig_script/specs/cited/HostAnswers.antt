-- The host after the lines so far.
use Rattle.std.specs.Prelude.{◌≡◌, true, ℕ, List, ◌++◌, Bool, Result, String, string_bytes}
use Rattle.std.specs.declared.alloc.AllocError.{AllocError}
use Rattle.std.specs.declared.alloc.Global.{Global}
use Rattle.rig_model.specs.Base.{IsBase, Setting}
use Rattle.host_core.specs.HostStanding.{HostStanding, Stands}
use Rattle.rig_model.specs.Host.{host_after}
use Rattle.rig_model.specs.Legal.{is_legal}
use Rattle.rig_model.specs.declared.events.Event.{Event}
use Rattle.rig_model.specs.Script.{Step, line_step, speaker_of}
use Rattle.rig_script.specs.declared.faults.Unanswered.{Unanswered}
use Rattle.rig_script.specs.inner.Script.{IsAnswered, IsCarriedOut}

-- the host's state is that of the rig after these events, the newest first
pub record IsHostAfter (setting : Setting) (host : HostStanding) (past : List Event) : Type 0 where
  pub base : IsBase setting.config setting.base
  pub legal : is_legal setting past ≡ true
  pub stands : Stands setting host (host_after setting past)

-- a text has exactly these bytes
abbrev pub Holds : String Global → List ℕ → Type 0
Holds text bytes = string_bytes text ≡ bytes

-- these bytes were appended to a text
abbrev pub Adds : String Global → String Global → List ℕ → Type 0
Adds before after bytes = string_bytes after ≡ string_bytes before ++ bytes

-- A host carries out a step, and its events are recorded. The result says whether the reply is a refusal. This holds for each past that the
-- host's state comes after, with the step for that past.
abbrev pub CarriesOut : (Setting → List Event → Step) → (List Event → Type 0) → (List Event → Type 0) → HostStanding → HostStanding → Result Bool AllocError → (List ℕ → Type 0) → Type 0
CarriesOut step Before After before after result Said = (setting : Setting) (past : List Event) → IsHostAfter setting before past
    → IsCarriedOut (step setting past) past Before After result Said (IsHostAfter setting after)

-- the same for the step of a line; if memory runs out, the error has the line's speaker
abbrev pub AnswersLine : List ℕ → (List Event → Type 0) → (List Event → Type 0) → HostStanding → HostStanding → Result Bool Unanswered → (List ℕ → Type 0) → Type 0
AnswersLine line Before After before after result Said = (setting : Setting) (past : List Event) → IsHostAfter setting before past
    → IsAnswered (line_step setting past line) past (speaker_of setting.config line) Before After result Said (IsHostAfter setting after)

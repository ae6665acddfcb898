-- The lines and events before the current state of an `Answers`.
use Rattle.std.specs.Prelude.{ℕ, List, [], ◌∷◌, Option, IfSome}
use Rattle.rig_model.specs.Base.{Setting}
use Rattle.rig_model.specs.Script.{past_behind}
use Rattle.rig_model.specs.declared.events.Event.{Event}

-- the events after lines of these texts, the newest first
abbrev pub past_behind_all : Setting → List Event → List (List ℕ) → List Event
past_behind_all setting past [] = past
past_behind_all setting past (text ∷ texts) = past_behind_all setting (past_behind setting past text) texts

-- the events of lines of these texts, from a new host on, the newest first
abbrev pub past_of : Setting → List (List ℕ) → List Event
past_of setting texts = past_behind_all setting [] texts

-- `Holds` for each setting, the texts of all lines, the oldest first, and all events, the newest first, for which `Stands` holds
abbrev pub ForEachPast : (Setting → List (List ℕ) → List Event → Type 0) → (Setting → List (List ℕ) → List Event → Type 0) → Type 0
ForEachPast Stands Holds = (setting : Setting) (texts : List (List ℕ)) (past : List Event) → Stands setting texts past → Holds setting texts past

-- the same, and `Holds` also of the bytes that a reader is known to have
abbrev pub ForEachPastReading : (Setting → List (List ℕ) → List Event → Type 0) → Option (List ℕ) → (Setting → List (List ℕ) → List Event → List ℕ → Type 0) → Type 0
ForEachPastReading Stands known Holds = IfSome known (λ bytes. (setting : Setting) (texts : List (List ℕ)) (past : List Event) → Stands setting texts past → Holds setting texts past bytes)

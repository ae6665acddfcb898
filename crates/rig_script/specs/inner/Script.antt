-- The results of the step of a line: its reply, its events and the state after it.
use Rattle.std.specs.Prelude.{◌≡◌, ◌⊎◌, ℕ, Bool, List, ◌++◌, reverse, Result, Ok, Err}
use Rattle.rig_script.specs.declared.faults.ScriptFault.{ScriptFault}
use Rattle.rig_script.specs.declared.faults.ScriptFault.TheVariants.{Write, Memory}
use Rattle.rig_script.specs.cited.Refusals.{is_refusal}
use Rattle.rig_script.specs.inner.Records.{IsRecorded}
use Rattle.std.specs.declared.alloc.AllocError.{AllocError}
use Rattle.rig_model.specs.declared.events.Event.{Event}
use Rattle.rig_model.specs.declared.speakers.Speaker.{Speaker}
use Rattle.rig_script.specs.declared.faults.Unanswered.{Unanswered}
use Rattle.rig_model.specs.Script.{Step}

-- a line was not answered because a write failed, or because there was no memory for the reply, and then `Said` holds
abbrev pub IsUnanswered : ScriptFault → Type 0 → Type 0
IsUnanswered fault Said = (fault ≡ Write) ⊎ ((fault ≡ Memory) × Said)

-- The step is taken after these events: `Said` holds of its reply, and `Stands` of the past with the step's own events. If memory runs out,
-- the error has the line's speaker.
abbrev pub IsReplied : Step → List Event → Speaker → Result (Unit {0}) Unanswered → (List ℕ → Type 0) → (List Event → Type 0) → Type 0
IsReplied step past speaker (Ok u) Said Stands = Said step.reply × Stands (step.events ++ past)
IsReplied step past speaker (Err e) Said Stands = e.speaker ≡ speaker

-- the same, the step's events were recorded, the oldest first, and the result says whether the reply is a refusal: `Before` and `After` are
-- those of the recorder; if memory runs out, nothing is promised
abbrev pub IsCarriedOut : Step → List Event → (List Event → Type 0) → (List Event → Type 0) → Result Bool AllocError → (List ℕ → Type 0) → (List Event → Type 0) → Type 0
IsCarriedOut step past Before After (Ok refused) Said Stands =
    Said step.reply × IsRecorded Before After (reverse step.events) × Stands (step.events ++ past) × (refused ≡ is_refusal step.reply)
IsCarriedOut step past Before After (Err e) Said Stands = Unit {0}

-- the same, with the line's speaker if memory runs out
abbrev pub IsAnswered : Step → List Event → Speaker → (List Event → Type 0) → (List Event → Type 0) → Result Bool Unanswered → (List ℕ → Type 0) → (List Event → Type 0) → Type 0
IsAnswered step past speaker Before After (Ok refused) Said Stands =
    Said step.reply × IsRecorded Before After (reverse step.events) × Stands (step.events ++ past) × (refused ≡ is_refusal step.reply)
IsAnswered step past speaker Before After (Err e) Said Stands = e.speaker ≡ speaker

-- a result, and the same result with this speaker in the error
abbrev pub HasSpeaker : Speaker → Result Bool AllocError → Result Bool Unanswered → Type 0
HasSpeaker speaker (Ok refused) r = r ≡ Ok refused
HasSpeaker speaker (Err e) r = r ≡ Err (record { speaker = speaker })

-- What was written for a script before a fault, and how much of it was read.
use Rattle.std.specs.Prelude.{◌≡◌, ◌≤◌, ◌*◌, ℕ, List, ◌++◌, Result, Err, Some, ◌⊎◌, [], Option, IfSome, IsSomeAnd, length}
use Rattle.rig_script.specs.declared.faults.ScriptFault.{ScriptFault}
use Rattle.rig_script.specs.declared.faults.ScriptFault.TheVariants.{Read, Write, Turns, Memory}
use Rattle.rig_model.specs.TextLines.{text_of_line}
use Rattle.rig_model.specs.declared.events.Event.{Event}
use Rattle.rig_model.specs.declared.limits.TheConstants.{MAX_READS}
use Rattle.rig_model.specs.config.Roster.{Rig}
use Rattle.rig_model.specs.Plays.{IsSettingOf}
use Rattle.rig_model.specs.Base.{Setting}
use Rattle.rig_model.specs.Script.{reply_to_line, memory_reply, past_behind}
use Rattle.text_lines.specs.BeforeFaults.{AreAllAnswered, AreAnsweredBefore}
use Rattle.text_lines.specs.declared.lines.TheConstants.{PAGE}

-- `reply` is the reply in a state to a line's text, and `after` the state after it
module _ {S : Type 0} (reply : S → List ℕ → List ℕ) (after : S → List ℕ → S) where
  -- What was written for these bytes before a fault, by what the reader still has. `Turns`: the answers to exactly the complete lines.
  -- `Read`: the same; or, if there was no memory for a line, the answers to the lines before it. `Memory`: the answers to the lines before
  -- the one whose reply had no memory, and then `refused` of that line's text. `Write`: nothing is promised.
  abbrev pub IsBrokenOff : (List ℕ → List ℕ) → S → List ℕ → Option (List ℕ) → (List ℕ → Type 0) → ScriptFault → Type 0
  IsBrokenOff refused s bytes remaining Written Read =
      AreAllAnswered reply after s bytes remaining Written ⊎ AreAnsweredBefore reply after s bytes (λ said line. Written said)
  IsBrokenOff refused s bytes remaining Written Write = Unit {0}
  IsBrokenOff refused s bytes remaining Written Turns = AreAllAnswered reply after s bytes remaining Written
  IsBrokenOff refused s bytes remaining Written Memory =
      AreAnsweredBefore reply after s bytes (λ said line. IsSomeAnd (text_of_line line) (λ text. Written (said ++ refused text)))

-- what was written for these bytes, after the events of the past, before a fault
abbrev pub AreBrokenOff : Option (List ℕ) → (List ℕ → Type 0) → ScriptFault → Setting → List Event → List ℕ → Type 0
AreBrokenOff remaining Written fault setting past bytes =
    IsBrokenOff (reply_to_line setting) (past_behind setting) (memory_reply setting) past bytes remaining Written fault

-- What was written for these bytes before a fault, by what the reader has left. If there was no memory for the host, nothing was read or
-- written.
abbrev pub IsScriptBrokenOff : Option (List ℕ) → (List ℕ → Type 0) → ScriptFault → Setting → List ℕ → Type 0
IsScriptBrokenOff left Written fault setting bytes = ((fault ≡ Memory) × (left ≡ Some bytes) × Written []) ⊎ AreBrokenOff left Written fault setting [] bytes

-- `Holds` in the setting of a new host with this configuration, for the bytes that a reader is known to have
abbrev pub ForNewHostReading : Rig → Option (List ℕ) → (Setting → List ℕ → Type 0) → Type 0
ForNewHostReading config known Holds = (setting : Setting) → IsSettingOf config setting → IfSome known (Holds setting)

-- No more is read than 1,048,576 reads give, each of at most a page. `Turns` occurs only if that many reads gave bytes, each at least one.
abbrev pub AreFewRead : {T : Type 0} → Result T ScriptFault → Option (List ℕ) → Option (List ℕ) → Type 0
AreFewRead result before after = IfSome before (λ bytes. IsSomeAnd after (λ more. (taken : List ℕ) × (bytes ≡ taken ++ more)
    × (length taken ≤ PAGE * MAX_READS) × (result ≡ Err Turns → MAX_READS ≤ length taken)))

-- What a session over a reader and a writer did, and how a fault cut it off.
use Rattle.std.specs.Prelude.{◌≡◌, ◌≢◌, ◌≤◌, ◌*◌, ◌⊎◌, ℕ, List, [], ◌∷◌, ◌++◌, length, Option, Some, IfSome, IsSomeAnd, Result, Err}
use Rattle.locked_book.specs.Books.{PassValue}
use Rattle.locked_book.specs.declared.faults.DeskFault.{DeskFault}
use Rattle.locked_book.specs.declared.faults.DeskFault.TheVariants as desk
use Rattle.rig_model.specs.config.Roster.{Rig}
use Rattle.rig_model.specs.TextLines.{cut, whole_lines}
use Rattle.rig_model.specs.declared.limits.TheConstants.{MAX_READS}
use Rattle.rig_model.specs.declared.logged.Call.{Call}
use Rattle.rig_model.specs.Sessions.{Outcome, State, ended, no_memory, pass_full, session_of, strange}
use Rattle.rig_sessions.specs.declared.faults.TalkFault.{TalkFault}
use Rattle.rig_sessions.specs.declared.faults.TalkFault.TheVariants.{Read, Write, Turns, Desk}
use Rattle.text_lines.specs.declared.lines.TheConstants.{PAGE}

-- the outcome of a call that is refused for this reason
abbrev pub outcome_of : DeskFault → Outcome
outcome_of desk.PassFull = pass_full
outcome_of (desk.Strange n) = strange
outcome_of desk.Memory = no_memory

-- These lines were taken: with some outcomes of their calls, a session reaches a state, and the calls that it made are the new calls of the
-- pass.
pub record Talked (config : Rig) (lines : List (List ℕ)) (old new : PassValue) : Type 0 where
  pub outcomes : List Outcome
  pub state : State
  pub made : List Call
  pub said : List ℕ
  pub session : session_of config outcomes lines ≡ record { state = state; outcomes = []; calls = made; text = said }
  pub pass : new.calls ≡ old.calls ++ made

-- the same, and its text was written
abbrev pub TalkedInto : Rig → PassValue → PassValue → (List ℕ → Type 0) → List (List ℕ) → Type 0
TalkedInto config old new Written lines = (t : Talked config lines old new) × Written t.said

-- All bytes were taken, and nothing is left unread unless a line ended the session.
abbrev pub TalkedToEnd : Rig → PassValue → PassValue → (List ℕ → Type 0) → Option (List ℕ) → List ℕ → Type 0
TalkedToEnd config old new Written remaining bytes = (t : Talked config (cut bytes) old new) × Written t.said × ((remaining ≡ Some []) ⊎ (t.state ≡ ended))

-- exactly the complete lines were taken: those of the bytes up to what the reader still has
abbrev pub TookWholeLines : List ℕ → Option (List ℕ) → (List (List ℕ) → Type 0) → Type 0
TookWholeLines bytes remaining Took = IsSomeAnd remaining (λ more. (taken : List ℕ) × (bytes ≡ taken ++ more) × Took (whole_lines taken))

-- exactly the lines before some line were taken
abbrev pub TookLinesBefore : List ℕ → (List (List ℕ) → Type 0) → Type 0
TookLinesBefore bytes Took = (before : List (List ℕ)) × (line : List ℕ) × (later : List (List ℕ)) × (cut bytes ≡ before ++ line ∷ later) × Took before

-- How a fault cut off a session, by what the reader still has. `Turns`: exactly the complete lines were taken. `Read`: the same; or, if there
-- was no memory for a line, exactly the lines before it. `Write`: some lines were taken, from the first on, and nothing is promised about the
-- bytes written. `Desk`: a call was refused, and its line was the last.
abbrev pub IsCutOff : Rig → PassValue → PassValue → (List ℕ → Type 0) → Option (List ℕ) → List ℕ → TalkFault → Type 0
IsCutOff config old new Written remaining bytes Read =
    TookWholeLines bytes remaining (TalkedInto config old new Written) ⊎ TookLinesBefore bytes (TalkedInto config old new Written)
IsCutOff config old new Written remaining bytes Turns = TookWholeLines bytes remaining (TalkedInto config old new Written)
IsCutOff config old new Written remaining bytes Write = (front : List (List ℕ)) × (later : List (List ℕ)) × (cut bytes ≡ front ++ later) × Talked config front old new
IsCutOff config old new Written remaining bytes (Desk fault) =
    (t : Talked config (cut bytes) old new) × (before : List Outcome) × (t.outcomes ≡ before ++ outcome_of fault ∷ []) × (t.state ≡ ended) × (fault ≢ desk.Memory)

-- No more is read than 1,048,576 reads give, each of at most a page. `Turns` occurs only if that many reads gave bytes, each at least one.
abbrev pub AreFewRead : Result Unit TalkFault → Option (List ℕ) → Option (List ℕ) → Type 0
AreFewRead result before after = IfSome before (λ bytes. IsSomeAnd after (λ more. (taken : List ℕ) × (bytes ≡ taken ++ more)
    × (length taken ≤ PAGE * MAX_READS) × (result ≡ Err Turns → MAX_READS ≤ length taken)))

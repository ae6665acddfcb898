-- The effect of lines on a session, its pass and its writer.
use Rattle.std.specs.Prelude.{◌≡◌, ◌≢◌, ◌⊎◌, ℕ, List, [], ◌∷◌, ◌++◌}
use Rattle.rig_model.specs.config.Roster.{Rig}
use Rattle.rig_model.specs.declared.lines.commands.Command.{Command}
use Rattle.locked_book.specs.Books.{PassValue}
use Rattle.locked_book.specs.declared.faults.DeskFault.TheVariants as desk
use Rattle.rig_model.specs.declared.logged.Call.{Call}
use Rattle.rig_model.specs.Sessions.{Outcome, Session, State, Step, behind_step, call, ended, replied, tenant, text_of_outcome, text_step, untold, written}
use Rattle.rig_sessions.specs.Talks.{outcome_of}
use Rattle.rig_sessions.specs.declared.faults.TalkFault.{TalkFault}
use Rattle.rig_sessions.specs.declared.faults.TalkFault.TheVariants.{Read, Write, Turns, Desk}

-- A step takes these outcomes, makes these calls, writes these bytes and results in this state, whatever came before and comes after it.
abbrev pub Takes : Step → List Outcome → List Call → List ℕ → State → Type 0
Takes step given made said s = (from : State) (later : List Outcome) (calls : List Call) (text : List ℕ)
    → behind_step (record { state = from; outcomes = given ++ later; calls = calls; text = text }) step ≡ record { state = s; outcomes = later; calls = calls ++ made; text = text ++ said }

-- a step was taken, which resulted in this state, with its calls on the pass
pub record IsTaken (step : Step) (s : State) (old new : PassValue) : Type 0 where
  pub given : List Outcome
  pub made : List Call
  pub said : List ℕ
  pub takes : Takes step given made said s
  pub pass : new.calls ≡ old.calls ++ made

-- the same, and its bytes were written
abbrev pub IsAnswered : Step → State → PassValue → PassValue → (List ℕ → Type 0) → Type 0
IsAnswered step s old new Written = (t : IsTaken step s old new) × Written t.said

-- A step wasn't answered: it was taken, and a write failed; or its call was refused.
abbrev pub IsUnanswered : Step → PassValue → PassValue → TalkFault → Type 0
IsUnanswered step old new Read = ⊥
IsUnanswered step old new Turns = ⊥
IsUnanswered step old new Write = (s : State) × IsTaken step s old new
IsUnanswered step old new (Desk fault) = (t : IsTaken step ended old new) × (t.given ≡ outcome_of fault ∷ []) × (fault ≢ desk.Memory)

-- a session after these texts
abbrev pub behind_texts : Rig → Session → List (List ℕ) → Session
behind_texts config s [] = s
behind_texts config s (x ∷ xs) = behind_texts config (behind_step s (text_step config s.state x)) xs

-- these texts were taken from one state to another, with their calls on the pass
pub record AreTaken (config : Rig) (from : State) (texts : List (List ℕ)) (s : State) (old new : PassValue) : Type 0 where
  pub given : List Outcome
  pub made : List Call
  pub said : List ℕ
  pub takes : (later : List Outcome) (calls : List Call) (text : List ℕ)
      → behind_texts config (record { state = from; outcomes = given ++ later; calls = calls; text = text }) texts ≡ record { state = s; outcomes = later; calls = calls ++ made; text = text ++ said }
  pub pass : new.calls ≡ old.calls ++ made

-- the same, and their bytes were written
abbrev pub AreAnswered : Rig → State → List (List ℕ) → State → PassValue → PassValue → (List ℕ → Type 0) → Type 0
AreAnswered config from texts s old new Written = (t : AreTaken config from texts s old new) × Written t.said

-- Texts weren't all answered: the first of them were taken, and a write failed; or a call was refused, which ended the session.
abbrev pub AreUnanswered : Rig → State → List (List ℕ) → PassValue → PassValue → TalkFault → Type 0
AreUnanswered config from texts old new Read = ⊥
AreUnanswered config from texts old new Turns = ⊥
AreUnanswered config from texts old new Write = (front : List (List ℕ)) × (later : List (List ℕ)) × (texts ≡ front ++ later) × (s : State) × AreTaken config from front s old new
AreUnanswered config from texts old new (Desk fault) =
    (t : AreTaken config from texts ended old new) × (before : List Outcome) × (t.given ≡ before ++ outcome_of fault ∷ []) × (fault ≢ desk.Memory)

-- these texts ask for these commands of a tenant, which aren't called yet
abbrev pub AreWaiting : Rig → State → ℕ → List (List ℕ) → List Command → Type 0
AreWaiting config s t [] [] = Unit {0}
AreWaiting config s t [] (c ∷ cs) = ⊥
AreWaiting config s t (x ∷ xs) [] = ⊥
AreWaiting config s t (x ∷ xs) (c ∷ cs) = (s ≡ tenant t) × (text_step config s x ≡ record { act = call t c; state = s }) × AreWaiting config s t xs cs

-- the first of these texts were answered, and the calls of the others wait
pub record IsUnderWay (config : Rig) (from : State) (texts : List (List ℕ)) (s : State) (t : ℕ) (waiting : List Command) (old new : PassValue) (Written : List ℕ → Type 0) : Type 0 where
  pub front : List (List ℕ)
  pub back : List (List ℕ)
  pub split : texts ≡ front ++ back
  pub answered : AreAnswered config from front s old new Written
  pub waits : AreWaiting config s t back waiting

-- these outcomes are the replies to these calls, each `replied` or `untold`, and this is their text
abbrev pub AreTold : List Call → List Outcome → List ℕ → Type 0
AreTold [] os said = (os ≡ []) × (said ≡ [])
AreTold (c ∷ cs) os said =
    (o : Outcome) × (later : List Outcome) × (rest : List ℕ) × ((o ≡ replied c.reply) ⊎ (o ≡ untold c.reply)) × (os ≡ o ∷ later) × (said ≡ written (text_of_outcome o) ++ rest) × AreTold cs later rest

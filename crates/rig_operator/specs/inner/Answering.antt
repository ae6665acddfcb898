-- What was asked and written for one line.
use Rattle.std.specs.Prelude.{◌≡◌, ℕ, List, Result, Ok, Err}
use Rattle.rig_model.specs.OperatorLines.{OperatorForm}
use Rattle.rig_operator.specs.Asked.{Asked, number_after}
use Rattle.rig_operator.specs.Operation.{IsAnswered, IsTextAnswered}
use Rattle.rig_operator.specs.declared.faults.OperatorFault.{OperatorFault}
use Rattle.rig_operator.specs.declared.faults.OperatorFault.TheVariants.{Write}

-- a line was answered, and the number of the next instant changed accordingly
abbrev pub AreReplied : ℕ → ℕ → OperatorForm → (List Asked → Type 0) → (List ℕ → Type 0) → Type 0
AreReplied old new line Asks Writes =
    (asked : List Asked) × (said : List ℕ) × Asks asked × Writes said × IsAnswered old line asked said × (new ≡ number_after old asked)

-- the same for a line's text
abbrev pub HasReplied : ℕ → ℕ → List ℕ → (List Asked → Type 0) → (List ℕ → Type 0) → Type 0
HasReplied old new text Asks Writes =
    (asked : List Asked) × (said : List ℕ) × Asks asked × Writes said × IsTextAnswered old text asked said × (new ≡ number_after old asked)

-- a write failed: nothing is promised about what was written
abbrev pub IsUnwritten : OperatorFault → ((List ℕ → Type 0) → Type 0) → Type 0
IsUnwritten fault Replied = (fault ≡ Write) × Replied (λ said. Unit {0})

-- The result of a line: it was answered, or a write failed.
abbrev pub IsReply : Result (Unit {0}) OperatorFault → ((List ℕ → Type 0) → Type 0) → (List ℕ → Type 0) → Type 0
IsReply (Ok u) Replied Writes = Replied Writes
IsReply (Err fault) Replied Writes = IsUnwritten fault Replied

-- What is done for a line of a user.
use Rattle.std.specs.Prelude.{◌≡◌, ◌⊎◌, ℕ, List, [], Some, None}
use Rattle.rig_client.specs.Answers.{kind_of_answer}
use Rattle.rig_client.specs.Requests.{line_of_file}
use Rattle.rig_client.specs.UserLines.{LineKind, blank, help, of_file, request}
use Rattle.rig_client.specs.declared.answers.AnswerKind.{AnswerKind}
use Rattle.rig_client.specs.declared.answers.AnswerKind.TheVariants.{GoesOn, Refused}

-- a line was sent, its answer was written for the user, and `kind` says how the session goes on
abbrev pub IsRequested : (List ℕ → List ℕ → Type 0) → (List ℕ → Type 0) → List ℕ → AnswerKind → Type 0
IsRequested Asks Says line kind = (answer : List ℕ) × Asks line answer × Says answer × (kind ≡ kind_of_answer answer)

module _ (Asks : List ℕ → List ℕ → Type 0) (Silent : Type 0) (Says : List ℕ → Type 0) where
  -- nothing was sent, this was written for the user, and the session goes on
  abbrev pub IsAnsweredHere : List ℕ → AnswerKind → Type 0
  IsAnsweredHere text kind = Silent × Says text × (kind ≡ GoesOn)

  -- nothing was sent, and the output has nothing of the line, which counts as refused
  abbrev pub IsNotSent : AnswerKind → Type 0
  IsNotSent kind = Silent × Says [] × (kind ≡ Refused)

  -- what was done for a line, by its kind
  abbrev pub IsLineAnswered : List ℕ → List ℕ → LineKind → AnswerKind → Type 0
  IsLineAnswered table line blank kind = IsAnsweredHere [] kind
  IsLineAnswered table line help kind = IsAnsweredHere table kind
  IsLineAnswered table line (of_file command None) kind = IsNotSent kind
  IsLineAnswered table line (of_file command (Some path)) kind = IsNotSent kind ⊎ ((text : List ℕ) × IsRequested Asks Says (line_of_file command text) kind)
  IsLineAnswered table line request kind = IsRequested Asks Says line kind

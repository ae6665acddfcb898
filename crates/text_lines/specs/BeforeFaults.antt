-- What was answered before a fault, for any caller that answers lines.
use Rattle.std.specs.Prelude.{◌≡◌, ℕ, List, ◌∷◌, ◌++◌, Option, IsSomeAnd}
use Rattle.std.specs.List.{AllByRecursion}
use Rattle.rig_model.specs.TextLines.{cut, whole_lines}
use Rattle.rig_model.specs.Answered.{IsText, answered}

-- `reply` is what a caller answers to a line's text in a state, and `after` is the state after it
module _ {S : Type 0} (reply : S → List ℕ → List ℕ) (after : S → List ℕ → S) where
  -- Exactly the lines that came whole were answered, and each has a text: the lines of the bytes up to what the reader still has.
  abbrev pub AreAllAnswered : S → List ℕ → Option (List ℕ) → (List ℕ → Type 0) → Type 0
  AreAllAnswered s bytes remaining Written = IsSomeAnd remaining (λ more.
      (taken : List ℕ) × (bytes ≡ taken ++ more) × AllByRecursion IsText (whole_lines taken) × Written (answered reply after s (whole_lines taken)))

  -- exactly the lines before a line were answered, and each has a text; `Holds` holds of their replies and this line
  abbrev pub AreAnsweredBefore : S → List ℕ → (List ℕ → List ℕ → Type 0) → Type 0
  AreAnsweredBefore s bytes Holds =
      (before : List (List ℕ)) × (line : List ℕ) × (later : List (List ℕ)) × (cut bytes ≡ before ++ line ∷ later)
      × AllByRecursion IsText before × Holds (answered reply after s before) line

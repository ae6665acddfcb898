-- The lines of a script that are answered, by their texts, and the line that ends it.
use Rattle.std.specs.Prelude.{◌≡◌, ℕ, ◌+◌, ◌-◌, ◌^◌, min, List, [], ◌∷◌, Option, Some, None}
use Rattle.std.specs.Option.{option_map}
use Rattle.rig_model.specs.TextLines.{cut, text_of_line}

-- the texts of these lines, up to the first line that is too long or not UTF-8
abbrev pub texts_of : List (List ℕ) → List (List ℕ)
texts_of [] = []
texts_of (line ∷ later) = or_none (option_map (λ text. text ∷ texts_of later) (text_of_line line))
  where
    or_none : Option (List (List ℕ)) → List (List ℕ)
    or_none None = []
    or_none (Some texts) = texts

-- the number of the line after this many lines, at most 2 ^ 64 - 1
abbrev pub number_behind : ℕ → ℕ
number_behind n = min (n + 1) (2 ^ 64 - 1)

-- after this many lines, the number of the first of these that is too long or not UTF-8, if there is one
abbrev pub bad_line_behind : ℕ → List (List ℕ) → Option ℕ
bad_line_behind n [] = None
bad_line_behind n (line ∷ later) = or_here (option_map (λ text. bad_line_behind (n + 1) later) (text_of_line line))
  where
    or_here : Option (Option ℕ) → Option ℕ
    or_here None = Some (number_behind n)
    or_here (Some number) = number

-- the number of the line that ends a script of these lines: the first that is too long or not UTF-8, counted from 1
abbrev pub bad_line_of : List (List ℕ) → Option ℕ
bad_line_of lines = bad_line_behind 0 lines

-- How a script of these bytes ended. `end` is the number of its first line that is too long or not UTF-8, if there is one. If there is none,
-- the reader has nothing left.
abbrev pub IsEndOf : List ℕ → Option (List ℕ) → Option ℕ → Type 0
IsEndOf bytes left end = (end ≡ bad_line_of (cut bytes)) × (end ≡ None → left ≡ Some [])

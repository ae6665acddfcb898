-- How far apart two words are, and of which word another one may be a misspelling.
use Rattle.std.specs.Prelude.{ℕ, Bool, ◌&&◌, ◌/◌, nat_eq, nat_le, if◌then◌else◌, List, [], ◌∷◌, length, map, Option, Some, None, true}
use Rattle.std.specs.Char.{to_ascii_lowercase}
use Rattle.std.specs.Cmp.Lexicographic.{pointwise}
use Rattle.std.specs.Str.{chars}
use Rattle.strsim.specs.Edits.{osa_table}

-- the same word, but for the case of ASCII letters
abbrev pub is_same_word : List ℕ → List ℕ → Bool
is_same_word word other = pointwise nat_eq (map to_ascii_lowercase word) (map to_ascii_lowercase other)

-- The least number of edits from a word to another one, no part of which is edited twice: a character is put in, left out or replaced, or
-- two neighbours are exchanged.
abbrev pub edits_between : List ℕ → List ℕ → ℕ
edits_between word other = (osa_table (chars word) (chars other)).last_row (length (chars other))

-- how far apart two words are
abbrev pub distance : List ℕ → List ℕ → ℕ
distance word other = if is_same_word word other then 0 else edits_between word other

-- A word may be a misspelling of another one: one edit for each three of its bytes leads there.
abbrev pub is_near : List ℕ → List ℕ → Bool
is_near word other = nat_le (distance word other) (length other / 3)

-- whether a word is at most as far away as another one, if there is one
abbrev pub is_as_near_as : List ℕ → List ℕ → Option (List ℕ) → Bool
is_as_near_as word other None = true
is_as_near_as word other (Some best) = nat_le (distance word other) (distance word best)

abbrev pub nearer_of : List ℕ → List ℕ → Option (List ℕ) → Option (List ℕ)
nearer_of word other best = if is_near word other && is_as_near_as word other best then Some other else best

-- of which of these words a word may be a misspelling: the nearest one, and the first of several
abbrev pub nearest_of : List ℕ → List (List ℕ) → Option (List ℕ)
nearest_of word [] = None
nearest_of word (other ∷ others) = nearer_of word other (nearest_of word others)

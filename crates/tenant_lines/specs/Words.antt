-- The words of a line: one or more blanks separate words; blanks at the ends mean nothing.
use Rattle.std.specs.Prelude.{ℕ, ◌-◌, ◌^◌, nat_le, Bool, not, ◌||◌, ◌==◌, if◌then◌else◌, ℤ, pos, neg_ℤ, List, [], ◌∷◌, drop, Option, Some, None}
use Rattle.std.specs.List.{list_all, prefix_len, take_while}
use Rattle.std.specs.Str.Parse.{digits_value}
use Rattle.giotto_text.specs.Bytes.{is_digit}

-- space, tab or CR: a line has no LF
abbrev pub is_blank_of_line : ℕ → Bool
is_blank_of_line c = c == 32 || c == 9 || c == 13

-- puts the byte in front of the first of these texts; if there is none, makes a text of the byte alone
abbrev pub joined_to_first : ℕ → List (List ℕ) → List (List ℕ)
joined_to_first c [] = (c ∷ []) ∷ []
joined_to_first c (w ∷ ws) = (c ∷ w) ∷ ws

-- the runs of bytes that aren't blanks
abbrev pub words_of : List ℕ → List (List ℕ)
words_of [] = []
words_of (c ∷ cs) = if is_blank_of_line c then words_of cs else by cs (words_of cs)
  where
    by : List ℕ → List (List ℕ) → List (List ℕ)
    by [] ws = (c ∷ []) ∷ []
    by (d ∷ ds) ws = if is_blank_of_line d then (c ∷ []) ∷ ws else joined_to_first c ws

-- a byte of a word: not a blank
abbrev pub is_word_byte : ℕ → Bool
is_word_byte c = not (is_blank_of_line c)

-- the line from its first word on
abbrev pub from_first_word : List ℕ → List ℕ
from_first_word line = drop (prefix_len is_blank_of_line line) line

-- the first word; empty if a line has none
abbrev pub first_word_of : List ℕ → List ℕ
first_word_of line = take_while is_word_byte (from_first_word line)

-- what follows the first word, blanks included
abbrev pub behind_first_word : List ℕ → List ℕ
behind_first_word line = drop (prefix_len is_word_byte (from_first_word line)) (from_first_word line)

-- where a name of two parts is cut
abbrev pub is_dot : ℕ → Bool
is_dot c = c == 46

-- the value that `of_size` gives for a number in decimal digits
abbrev pub digits_as : (ℕ → Option ℤ) → List ℕ → Option ℤ
digits_as of_size [] = None
digits_as of_size (c ∷ cs) = if list_all is_digit (c ∷ cs) then of_size (digits_value 10 (c ∷ cs)) else None

-- a word as an i64: an optional "-", then digits, leading zeros allowed
abbrev pub value_of_word : List ℕ → Option ℤ
value_of_word [] = None
value_of_word (c ∷ cs) =
    if c == 45 then digits_as (λ n. if nat_le n (2 ^ 63) then Some (neg_ℤ (pos n)) else None) cs
    else digits_as (λ n. if nat_le n (2 ^ 63 - 1) then Some (pos n) else None) (c ∷ cs)

-- the values of all words; none if a word isn't a value
abbrev pub values_of_words : List (List ℕ) → Option (List ℤ)
values_of_words [] = Some []
values_of_words (w ∷ ws) = by (value_of_word w) (values_of_words ws)
  where
    by : Option ℤ → Option (List ℤ) → Option (List ℤ)
    by None zs = None
    by (Some z) None = None
    by (Some z) (Some zs) = Some (z ∷ zs)

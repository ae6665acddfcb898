-- Places in texts. Lines end with LF, and columns count characters, each of which has one first byte in UTF-8.
use Rattle.std.specs.Prelude.{ℕ, ◌+◌, nat_lt, nat_le, ◌==◌, Bool, not, ◌||◌, List, take, reverse, take_while}
use Rattle.std.specs.List.{count_by}
use Rattle.giotto_faults.specs.declared.places.Place.{Place}

-- LF
abbrev pub ends_line : ℕ → Bool
ends_line c = c == 10

-- the first byte of a character is below 128 or at least 192
abbrev pub begins_character : ℕ → Bool
begins_character c = nat_lt c 128 || nat_le 192 c

-- how many characters come after the last line end
abbrev pub characters_back : List ℕ → ℕ
characters_back bytes = count_by begins_character (take_while (λ c. not (ends_line c)) (reverse bytes))

-- the line is one more than the line ends before the offset; the column is one more than the characters between the last of them
-- and the offset
abbrev pub place_of : List ℕ → ℕ → Place
place_of text offset = record { line = 1 + count_by ends_line (take offset text); column = 1 + characters_back (take offset text) }

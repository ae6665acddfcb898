-- Kinds of bytes, and the shape of names.
use Rattle.std.specs.Prelude.{ℕ, Bool, false, ◌&&◌, ◌||◌, ◌==◌, nat_le, List, [], ◌∷◌, length}
use Rattle.std.specs.List.{list_all}

abbrev pub is_digit : ℕ → Bool
is_digit c = nat_le 48 c && nat_le c 57

-- A to Z, a to z, or _
abbrev pub is_letter : ℕ → Bool
is_letter c = (nat_le 65 c && nat_le c 90) || (nat_le 97 c && nat_le c 122) || c == 95

abbrev pub is_name_byte : ℕ → Bool
is_name_byte c = is_letter c || is_digit c

-- the shape of a name: a letter, then letters and digits; at most 32 bytes
abbrev pub is_name : List ℕ → Bool
is_name [] = false
is_name (c ∷ cs) = is_letter c && list_all is_name_byte cs && nat_le (length (c ∷ cs)) 32

-- a blank of a program's text: space, tab, CR or LF
abbrev pub is_blank_of_text : ℕ → Bool
is_blank_of_text c = c == 32 || c == 9 || c == 13 || c == 10

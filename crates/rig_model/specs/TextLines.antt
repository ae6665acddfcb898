-- How bytes are cut into lines.
use Rattle.std.specs.Prelude.{ℕ, nat_le, ◌&&◌, ◌==◌, if◌then◌else◌, List, [], ◌∷◌, length, take, filter, Option, Some, None}
use Rattle.std.specs.Str.{is_utf8}
use Rattle.rig_model.specs.declared.limits.TheConstants.{MAX_LINE}
use Rattle.tenant_lines.specs.Words.{joined_to_first}

-- the bytes up to each LF; what follows the last LF is a line too, unless it is empty
abbrev pub cut : List ℕ → List (List ℕ)
cut [] = []
cut (c ∷ cs) = if c == 10 then [] ∷ cut cs else joined_to_first c (cut cs)

-- how many LFs there are
abbrev pub lf_count : List ℕ → ℕ
lf_count bytes = length (filter (λ c. c == 10) bytes)

-- the lines that are complete in these bytes: as many, from the first on, as there are LFs
abbrev pub whole_lines : List ℕ → List (List ℕ)
whole_lines bytes = take (lf_count bytes) (cut bytes)

-- without one CR at the end
abbrev pub without_last_cr : List ℕ → List ℕ
without_last_cr [] = []
without_last_cr (c ∷ []) = if c == 13 then [] else c ∷ []
without_last_cr (c ∷ d ∷ cs) = c ∷ without_last_cr (d ∷ cs)

-- the text of a line of at most `MAX_LINE` bytes in UTF-8; no other line has a text
abbrev pub text_of_line : List ℕ → Option (List ℕ)
text_of_line line = if nat_le (length line) MAX_LINE && is_utf8 line then Some (without_last_cr line) else None

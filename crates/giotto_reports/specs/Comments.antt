-- The text of a program's file as one line, in which each byte of the program keeps its place.
use Rattle.std.specs.Prelude.{ℕ, Bool, ◌||◌, ◌==◌, nat_eq, if◌then◌else◌, List, [], ◌∷◌, codes}
use Rattle.std.specs.List.{starts_with}

-- LF or CR
abbrev pub is_line_end : ℕ → Bool
is_line_end c = c == 10 || c == 13

abbrev pub begins_comment : List ℕ → Bool
begins_comment text = starts_with nat_eq text (codes "//")

-- what replaces a byte that is not part of the program
abbrev pub blank : ℕ
blank = 32

abbrev mutual
  -- outside of a comment: line ends and comments are blanked, and everything else stays
  pub one_line : List ℕ → List ℕ
  one_line [] = []
  one_line (c ∷ cs) =
      if is_line_end c then blank ∷ one_line cs
      else (if begins_comment (c ∷ cs) then blank ∷ rest_of_comment cs else c ∷ one_line cs)

  -- in a comment: everything is blanked, up to and including the end of the line
  pub rest_of_comment : List ℕ → List ℕ
  rest_of_comment [] = []
  rest_of_comment (c ∷ cs) = if is_line_end c then blank ∷ one_line cs else blank ∷ rest_of_comment cs

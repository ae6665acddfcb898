-- Numbers as text.
use Rattle.std.specs.Prelude.{ℕ, List, [], ◌∷◌, codes}
use Rattle.std.specs.Fmt.{decimal}
use Rattle.std.specs.List.{join_by}

-- with commas between them, as in "0, 2", and "none" if there are none
abbrev pub text_of_numbers : List ℕ → List ℕ
text_of_numbers [] = codes "none"
text_of_numbers (n ∷ ns) = join_by decimal (codes ", ") (n ∷ ns)

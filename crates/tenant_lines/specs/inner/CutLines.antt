-- A line by its first word and what follows it.
use Rattle.std.specs.Prelude.{ℕ, List, [], ◌∷◌}
use Rattle.tenant_lines.specs.Words.{words_of}

-- the words of a line with this first word and this rest; none if the first word is empty
abbrev pub words_from : List ℕ → List ℕ → List (List ℕ)
words_from [] rest = []
words_from (c ∷ cs) rest = (c ∷ cs) ∷ words_of rest

-- The rule of a history, and what is known after the step that adds an entry.
use Rattle.std.specs.Prelude.{ℕ, ◌≡◌, ◌==◌, true, List, [], ◌∷◌, ◌++◌, length, MatchBool}
use Rattle.logbook.specs.Pages.{Cell, Step, View, Book, Named}
use Rattle.rig_model.specs.declared.logged.Logged.{Logged}

-- the first of the two words of a book is the length of the history; the other one stays 0
abbrev pub IsKept : List Cell → List Logged → Type 0
IsKept cells log = cells ≡ (length log, true) ∷ (0, true) ∷ []

-- the first of these words
abbrev pub head_of : Book → Named
head_of b = record { tracked = true; key = 0; book = b }

-- the entry was added to all that had been seen; or the history was longer, and has now been seen
abbrev pub Adds : Step Logged → View Logged ℕ → ℕ → View Logged ℕ → Type 0
Adds s v found w = MatchBool (found == s.old) (w.0 ≡ v.0 ++ s.ask ∷ []) (length w.0 ≡ found)

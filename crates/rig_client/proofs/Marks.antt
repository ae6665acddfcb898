-- A word that begins with "<" may be cut after it.
use Rattle.std.proofs.Common.{◌≡◌, ℕ, ◌<◌, true, List, [], ◌∷◌, length, get_or, nat_eq, codes, IsUtf8, arith}
use Rattle.std.proofs.lemmas.Bool.Decides.{nat_tests}
use Rattle.std.proofs.lemmas.Str.{IsCharBoundary-after_ascii}
use Rattle.std.specs.List.{starts_with}
use Rattle.std.specs.Str.{IsCharBoundary}

begins_with_mark : (word : List ℕ) → starts_with nat_eq word (codes "<") ≡ true → (0 < length word) × (get_or word 0 0 < 128)
begins_with_mark [] e = grind arith
begins_with_mark (c ∷ cs) e = (omega arith, grind (arith, nat_tests))

pub boundary_behind_mark : (word : List ℕ) → IsUtf8 word → starts_with nat_eq word (codes "<") ≡ true → IsCharBoundary word 1
boundary_behind_mark word utf8 e = let begins = begins_with_mark word e in IsCharBoundary-after_ascii word 0 utf8 begins.0 begins.1

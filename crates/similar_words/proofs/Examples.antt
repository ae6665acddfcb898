-- Words and their misspellings.
use Rattle.std.proofs.Common.{◌≡◌, [], ◌∷◌, false, true, Some, None, codes, refl}
use Rattle.std.specs.Str.{chars}
use Rattle.strsim.specs.Edits.{cost_at, osa_from, osa_row}
use Rattle.similar_words.specs.Distances.{distance, is_near, nearest_of}

case_alone : distance (codes "START") (codes "start") ≡ 0
case_alone = refl

neighbours_exchanged : distance (codes "strat") (codes "start") ≡ 1
unfolding osa_from osa_row cost_at chars
neighbours_exchanged = refl

-- three bytes allow one edit, and four bytes one
one_edit_of_four : is_near (codes "lod") (codes "load") ≡ true
unfolding osa_from osa_row cost_at chars
one_edit_of_four = refl

two_edits_of_four : is_near (codes "lad x") (codes "load") ≡ false
unfolding osa_from osa_row cost_at chars
two_edits_of_four = refl

nearest_of_two : nearest_of (codes "unofer") (codes "offer" ∷ codes "unoffer" ∷ []) ≡ Some (codes "unoffer")
unfolding osa_from osa_row cost_at chars
nearest_of_two = refl

first_of_two : nearest_of (codes "roes") (codes "rows" ∷ codes "rols" ∷ codes "toes" ∷ []) ≡ Some (codes "rows")
unfolding osa_from osa_row cost_at chars
first_of_two = refl

none_near : nearest_of (codes "fly") (codes "load" ∷ codes "stop" ∷ []) ≡ None
unfolding osa_from osa_row cost_at chars
none_near = refl

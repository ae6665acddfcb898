-- Examples of numbers as text.
use Rattle.std.proofs.Common.{◌≡◌, [], ◌∷◌, codes, refl}
use Rattle.std.specs.Fmt.{digits}
use Rattle.program_checks.specs.Numbers.{text_of_numbers}

none : text_of_numbers [] ≡ codes "none"
none = refl

several : text_of_numbers (0 ∷ 2 ∷ 17 ∷ []) ≡ codes "0, 2, 17"
unfolding digits
several = refl

-- The greatest of some numbers, with the first one separate.
use Rattle.std.proofs.Common.{◌≡◌, ℕ, List, [], ◌∷◌, max, arith}
use Rattle.std.specs.List.{fold}
use Rattle.rig_model.specs.rules.Costs.{greatest}

greatest_from : (a : ℕ) (ns : List ℕ) → fold max a ns ≡ max a (greatest ns)
greatest_from a [] = omega arith
greatest_from a (n ∷ ns) = let one = greatest_from (max a n) ns in let other = greatest_from (max 0 n) ns in omega (arith, one, other)

pub greatest_more : (n : ℕ) (ns : List ℕ) → greatest (n ∷ ns) ≡ max n (greatest ns)
greatest_more n ns = let one = greatest_from (max 0 n) ns in omega (arith, one)

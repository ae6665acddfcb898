-- A copy of the slab of entries.
use Rattle.std.proofs.Common.{◌≡◌, List, [], ◌∷◌, Option, Some, None, IsSomeAnd, refl, ap}
use Rattle.std.specs.List.{AllZip}
use Rattle.slab.specs.Slab.{IsSlotClone}

some_is : {X : Type 0} (o : Option X) (x : X) → IsSomeAnd o (λ y. y ≡ x) → o ≡ Some x
some_is None x h = absurd h
some_is (Some y) x h = ap (λ z. Some z) h

-- if copies of values are equal to the values, copied slots are equal to the slots
pub same_slots : {X : Type 0} (slots copies : List (Option X)) → AllZip (IsSlotClone (λ x y. y ≡ x)) slots copies → copies ≡ slots
same_slots [] [] h = refl
same_slots [] (copy ∷ copies) h = absurd h
same_slots (slot ∷ slots) [] h = absurd h
same_slots (None ∷ slots) (copy ∷ copies) h = (λ k. h.0 k ∷ same_slots slots copies h.1 k)
same_slots (Some x ∷ slots) (copy ∷ copies) h = (λ k. some_is copy x h.0 k ∷ same_slots slots copies h.1 k)

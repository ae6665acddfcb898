-- The first bytes of a name, as a number.
use Rattle.std.proofs.Common.{rules, arith, ℕ, zero, suc, ◌≡◌, ◌<◌, List, [], ◌∷◌, ◌++◌, length, take, drop, replicate, get_or, min, refl, ap}
use Rattle.giotto_tasks.specs.inner.Words.{padded}

pub zeros_padded : (n : ℕ) → replicate n 0 ≡ padded n []
zeros_padded zero = refl
zeros_padded (suc n) = ap (λ bs. 0 ∷ bs) (zeros_padded n)

-- the first bytes, written over the start of n zeros
pub first_padded : (n k : ℕ) (bs : List ℕ) → k ≡ min (length bs) n → take k bs ++ drop k (replicate n 0) ≡ padded n bs
first_padded zero zero bs e = refl
first_padded zero (suc k) bs e = absurd (omega (arith, e))
first_padded (suc n) zero [] e = zeros_padded (suc n)
first_padded (suc n) (suc k) [] e = absurd (omega (arith, e))
first_padded (suc n) zero (b ∷ bs) e = absurd (omega (arith, e))
first_padded (suc n) (suc k) (b ∷ bs) e = ap (λ l. b ∷ l) (first_padded n k bs (omega (arith, e)))

pub length_padded : (n : ℕ) (bs : List ℕ) → length (padded n bs) ≡ n
length_padded zero bs = refl
length_padded (suc n) [] = ap suc (length_padded n [])
length_padded (suc n) (b ∷ bs) = ap suc (length_padded n bs)

pub byte_padded : (n : ℕ) (bs : List ℕ) → ((i : ℕ) → get_or bs i 0 < 256) → (i : ℕ) → get_or (padded n bs) i 0 < 256
byte_padded zero bs h i = search rules
byte_padded (suc n) [] h zero = search rules
byte_padded (suc n) [] h (suc i) = byte_padded n [] h i
byte_padded (suc n) (b ∷ bs) h zero = h zero
byte_padded (suc n) (b ∷ bs) h (suc i) = byte_padded n bs (λ j. h (suc j)) i

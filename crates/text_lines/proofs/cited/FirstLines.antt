-- The texts of the first lines of some bytes.
use Rattle.std.proofs.Common.{◌≡◌, ℕ, Bool, List, [], ◌∷◌, ◌++◌, refl}
use Rattle.text_lines.specs.cited.Batches.{AreFirstLines}

-- the bytes after them
pub behind_first : (bytes : List ℕ) (texts : List (List ℕ)) (ended : Bool) (Then : List ℕ → Type 0) → AreFirstLines bytes texts ended Then
    → (later : List ℕ) × Then later × AreFirstLines bytes texts ended (λ rest. rest ≡ later)
behind_first bytes [] ended Then first = (bytes, first, refl)
behind_first bytes (text ∷ texts) ended Then first =
    let at = behind_first first.1 texts ended Then first.4 in
    (at.0, at.1, (first.0, first.1, first.2, first.3, at.2))

-- the first of them, and then the others
pub first_of_both : (bytes : List ℕ) (xs ys : List (List ℕ)) (ended : Bool) (Then : List ℕ → Type 0) → AreFirstLines bytes (xs ++ ys) ended Then → AreFirstLines bytes xs ended (λ rest. AreFirstLines rest ys ended Then)
first_of_both bytes [] ys ended Then first = first
first_of_both bytes (text ∷ texts) ys ended Then first = (first.0, first.1, first.2, first.3, first_of_both first.1 texts ys ended Then first.4)

-- more lines after them
pub first_and_one : (bytes : List ℕ) (xs ys : List (List ℕ)) (ended : Bool) (Then : List ℕ → Type 0) → AreFirstLines bytes xs ended (λ rest. AreFirstLines rest ys ended Then) → AreFirstLines bytes (xs ++ ys) ended Then
first_and_one bytes [] ys ended Then first = first
first_and_one bytes (text ∷ texts) ys ended Then first = (first.0, first.1, first.2, first.3, first_and_one first.1 texts ys ended Then first.4)

-- what follows for the bytes after them
pub first_then : (bytes : List ℕ) (texts : List (List ℕ)) (ended : Bool) (P Q : List ℕ → Type 0) → ((rest : List ℕ) → P rest → Q rest) → AreFirstLines bytes texts ended P → AreFirstLines bytes texts ended Q
first_then bytes [] ended P Q f first = f bytes first
first_then bytes (text ∷ texts) ended P Q f first = (first.0, first.1, first.2, first.3, first_then first.1 texts ended P Q f first.4)

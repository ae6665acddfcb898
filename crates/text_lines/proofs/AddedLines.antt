-- A line that is added to those that were given.
use Rattle.std.proofs.Common.{◌≡◌, ℕ, Bool, List, [], ◌∷◌, ◌++◌, map, Option, Ok, String, Global, string_bytes, sym, subst}
use Rattle.std.proofs.lemmas.List.{map-append}
use Rattle.rig_model.specs.TextLines.{cut}
use Rattle.text_lines.specs.cited.Batches.{AreFirstLines}
use Rattle.text_lines.specs.cited.Reading.{HasFirstLine, IsNextLine}
use Rattle.text_lines.specs.declared.lines.Line.TheVariants.{Whole}
use Rattle.text_lines.proofs.cited.FirstLines.{first_and_one, first_then}

-- one more whole line, and what follows for the bytes after it
pub whole_added : (bytes : List ℕ) (texts new : List (String Global)) (text : String Global) (ended ended_now : Bool) (remaining : Option (List ℕ)) (Left Then : List ℕ → Type 0)
    → AreFirstLines bytes (map string_bytes texts) ended (λ rest. IsNextLine rest (Ok (Whole text)) remaining ended Left) → new ≡ texts ++ text ∷ [] → ended_now ≡ ended → ((rest : List ℕ) → Left rest → Then rest)
    → AreFirstLines bytes (map string_bytes new) ended_now Then
whole_added bytes texts new text ended ended_now remaining Left Then first added same f =
    subst (λ (l : List (String Global)). AreFirstLines bytes (map string_bytes l) ended_now Then) (sym added)
    (subst (λ (l : List (List ℕ)). AreFirstLines bytes l ended_now Then) (sym (map-append string_bytes texts (text ∷ [])))
    (subst (λ e. AreFirstLines bytes (map string_bytes texts ++ string_bytes text ∷ []) e Then) (sym same)
    (first_and_one bytes (map string_bytes texts) (string_bytes text ∷ []) ended Then
    (first_then bytes (map string_bytes texts) ended (λ rest. IsNextLine rest (Ok (Whole text)) remaining ended Left) (λ rest. AreFirstLines rest (string_bytes text ∷ []) ended Then)
    (λ rest next. (next.0, next.1, next.2, next.3, f next.1 next.4)) first))))

-- a line that isn't added is there
pub whole_there : (bytes : List ℕ) (text : String Global) (ended : Bool) (remaining : Option (List ℕ)) (Left : List ℕ → Type 0) → IsNextLine bytes (Ok (Whole text)) remaining ended Left → HasFirstLine bytes (λ line. Unit {0})
whole_there bytes text ended remaining Left next = (next.0, cut next.1, next.2.0, tt)

-- Tables of a plant, read one after the other.
use Rattle.std.proofs.Common.{◌≡◌, ℕ, ◌+◌, ◌<◌, List, [], ◌∷◌, ◌++◌, length, get_or, drop, refl, ap, ◌∙◌, append_assoc, add-one, drop-cons, Some}
use Rattle.std.specs.Prelude.{Result, Ok, Err}
use Rattle.toml.specs.Data.{Data, Items, item, Members, as_table}
use Rattle.toml.specs.View.{view, items_view}
use Rattle.toml.specs.declared.value.Value.{Value}
use Rattle.plant_couplings.specs.Reading.{◌>>=◌, coupling_of, couplings_from}
use Rattle.plant_couplings.specs.declared.couplings.Coupling.{Coupling}
use Rattle.plant_couplings.specs.declared.faults.PlantFault.{PlantFault}

-- what is read, after couplings that were read before
abbrev pub behind : List Coupling → Result (List Coupling) PlantFault → Result (List Coupling) PlantFault
behind before (Ok others) = Ok (before ++ others)
behind before (Err fault) = Err fault

behind_one : (before : List Coupling) (x : Coupling) (others : Result (List Coupling) PlantFault)
    → behind (before ++ x ∷ []) others ≡ behind before (others >>= (λ xs. Ok (x ∷ xs)))
behind_one before x (Ok xs) = ap Ok (append_assoc before (x ∷ []) xs)
behind_one before x (Err fault) = refl

-- the values from a place on: the one there, and those after it
items_at : (vs : List Value) (i : ℕ) (d : Value) → i < length vs → items_view (drop i vs) ≡ item (view (get_or vs i d)) (items_view (drop (i + 1) vs))
items_at vs i d lt = rw (add-one, drop-cons vs i d)

couplings_of_item : (lines i : ℕ) (before : List Coupling) (value : Data) (others : Items) (fields : Members) (x : Coupling)
    → as_table value ≡ Some fields → coupling_of lines i fields ≡ Ok x
    → behind (before ++ x ∷ []) (couplings_from lines (i + 1) others) ≡ behind before (couplings_from lines i (item value others))
couplings_of_item lines i before value others fields x is_table is_one = behind_one before x (couplings_from lines (i + 1) others) ∙ rw (is_table, is_one)

-- one more coupling
pub next_coupling : (lines i : ℕ) (before : List Coupling) (vs : List Value) (value : Value) (fields : Members) (x : Coupling)
    → i < length vs → value ≡ get_or vs i value → as_table (view value) ≡ Some fields → coupling_of lines i fields ≡ Ok x
    → behind (before ++ x ∷ []) (couplings_from lines (i + 1) (items_view (drop (i + 1) vs))) ≡ behind before (couplings_from lines i (items_view (drop i vs)))
next_coupling lines i before vs value fields x lt here is_table is_one =
    rw (items_at vs i value lt, ← here) (couplings_of_item lines i before (view value) (items_view (drop (i + 1) vs)) fields x is_table is_one)

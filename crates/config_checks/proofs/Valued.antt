-- The values of an array, written one by one.
use Rattle.std.proofs.Common.{◌≡◌, ◌+◌, ◌<◌, ℕ, List, [], ◌∷◌, ◌++◌, length, map, take, get_or, codes, refl, sym, ap, subst, ◌∙◌, append_assoc, append-nil}
use Rattle.std.proofs.lemmas.List.{map-append, take_more}
use Rattle.toml.specs.Data.{Data}
use Rattle.toml.specs.View.{items_of, items_view, view}
use Rattle.toml.specs.declared.value.Value.{Value}
use Rattle.config_checks.specs.Values.{AreTold, IsToldSo}

told_behind : (ds : List Data) (d : Data) (text one : List ℕ) → AreTold (items_of ds) text → IsToldSo d one → AreTold (items_of (ds ++ d ∷ [])) (text ++ (codes ", " ++ one))
told_behind [] d text one are is = (one, [], ap (λ (t : List ℕ). t ++ (codes ", " ++ one)) are ∙ ap (λ (t : List ℕ). codes ", " ++ t) (sym (append-nil one)), is, refl)
told_behind (e ∷ ds) d text one are is =
    let more : List ℕ = codes ", " ++ one in
    let grown : text ++ more ≡ codes ", " ++ (are.0 ++ (are.1 ++ more)) =
    ap (λ (t : List ℕ). t ++ more) are.2 ∙ ap (λ (t : List ℕ). codes ", " ++ t) (append_assoc are.0 are.1 more) in
    (are.0, are.1 ++ more, grown, are.3, told_behind ds d are.1 one are.4 is)

-- a loop over values, one value further
pub value_further : (vs : List Value) (i : ℕ) (v : Value) (before one after : List ℕ) → AreTold (items_view (take i vs)) before → i < length vs → v ≡ get_or vs i v → IsToldSo (view v) one
    → after ≡ before ++ (codes ", " ++ one) → AreTold (items_view (take (i + 1) vs)) after
value_further vs i v before one after so_far within item is grown =
    let taken : take i vs ++ v ∷ [] ≡ take (i + 1) vs = sym (take_more vs i v within ∙ ap (λ (w : Value). take i vs ++ w ∷ []) (sym item)) in
    let more : map view (take i vs) ++ view v ∷ [] ≡ map view (take (i + 1) vs) = sym (map-append view (take i vs) (v ∷ [])) ∙ ap (map view) taken in
    subst (λ (ds : List Data). AreTold (items_of ds) after) more
    (subst (λ (t : List ℕ). AreTold (items_of (map view (take i vs) ++ view v ∷ [])) t) (sym grown) (told_behind (map view (take i vs)) (view v) before one so_far is))

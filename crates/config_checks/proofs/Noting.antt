-- Notes that are added one by one.
use Rattle.std.proofs.Common.{◌≡◌, ◌+◌, ◌<◌, ℕ, List, [], ◌∷◌, ◌++◌, length, map, take, drop, get_or, sym, ap, ◌∙◌, append_assoc}
use Rattle.std.specs.List.{flat_map}
use Rattle.std.proofs.lemmas.List.{drop_more, flat_map_more, map-append, take_more}
use Rattle.giotto_faults.specs.declared.findings.Severity.{Severity}
use Rattle.rig_model.specs.config.Roster.{Rig}
use Rattle.rig_model.specs.declared.config.TenantConfig.{TenantConfig}
use Rattle.config_checks.specs.Notes.{as_note, notes_from, notes_of_tenant}

abbrev pub Told : Type 0
Told = Severity × List ℕ

-- a loop that adds notes for each element, one element further
pub notes_further : {X : Type 0} (f : X → List (List ℕ)) (xs : List X) (i : ℕ) (x : X) (first before after : List Told) → before ≡ first ++ map as_note (flat_map f (take i xs)) → i < length xs → x ≡ get_or xs i x
    → after ≡ before ++ map as_note (f x) → after ≡ first ++ map as_note (flat_map f (take (i + 1) xs))
notes_further {X = X} f xs i x first before after so_far within item grown =
    let taken : take i xs ++ x ∷ [] ≡ take (i + 1) xs = sym (take_more xs i x within ∙ ap (λ (y : X). take i xs ++ y ∷ []) (sym item)) in
    let words : flat_map f (take i xs) ++ f x ≡ flat_map f (take (i + 1) xs) = flat_map_more f [] (take i xs) x ∙ ap (flat_map f) taken in
    let notes : map as_note (flat_map f (take i xs)) ++ map as_note (f x) ≡ map as_note (flat_map f (take (i + 1) xs)) = sym (map-append as_note (flat_map f (take i xs)) (f x)) ∙ ap (map as_note) words in
    grown ∙ (ap (λ (l : List Told). l ++ map as_note (f x)) so_far ∙ (append_assoc first (map as_note (flat_map f (take i xs))) (map as_note (f x)) ∙ ap (λ (l : List Told). first ++ l) notes))

-- a loop over the lines that a tenant may read, one line further
pub line_further : (f : ℕ → List (List ℕ)) (lines : List ℕ) (i x : ℕ) (first before after : List Told) → before ≡ first ++ map as_note (flat_map f (take i lines)) → i < length lines → x ≡ get_or lines i x
    → after ≡ before ++ map as_note (f x) → after ≡ first ++ map as_note (flat_map f (take (i + 1) lines))
line_further f lines i x first before after so_far within item grown = notes_further f lines i x first before after so_far within item grown

-- a loop over tenants, one tenant further
pub tenant_further : (rig : Rig) (place : ℕ) (tenant : TenantConfig) (before after all : List Told) → place < length rig.tenants → tenant ≡ get_or rig.tenants place tenant
    → before ++ map as_note (notes_from rig place (drop place rig.tenants)) ≡ all → after ≡ before ++ map as_note (notes_of_tenant rig place tenant)
    → after ++ map as_note (notes_from rig (place + 1) (drop (place + 1) rig.tenants)) ≡ all
tenant_further rig place tenant before after all there item h grown =
    let own = notes_of_tenant rig place tenant in
    let later = notes_from rig (place + 1) (drop (place + 1) rig.tenants) in
    let front : drop place rig.tenants ≡ tenant ∷ drop (place + 1) rig.tenants = drop_more rig.tenants place tenant there ∙ ap (λ (t : TenantConfig). t ∷ drop (place + 1) rig.tenants) (sym item) in
    let here : notes_from rig place (drop place rig.tenants) ≡ own ++ later = ap (notes_from rig place) front in
    ap (λ (l : List Told). l ++ map as_note later) grown
    ∙ (append_assoc before (map as_note own) (map as_note later)
    ∙ (ap (λ (l : List Told). before ++ l) (sym (map-append as_note own later) ∙ ap (map as_note) (sym here)) ∙ h))

-- a loop that adds a text for each element, one element further
pub text_further : {X : Type 0} (f : X → List ℕ) (xs : List X) (i : ℕ) (x : X) (first before after : List ℕ) → before ≡ first ++ flat_map f (take i xs) → i < length xs → x ≡ get_or xs i x
    → after ≡ before ++ f x → after ≡ first ++ flat_map f (take (i + 1) xs)
text_further f xs i x first before after so_far within item grown =
    let taken : take i xs ++ x ∷ [] ≡ take (i + 1) xs = sym (take_more xs i x within ∙ ap (λ y. take i xs ++ y ∷ []) (sym item)) in
    let more : flat_map f (take i xs) ++ f x ≡ flat_map f (take (i + 1) xs) = flat_map_more f [] (take i xs) x ∙ ap (flat_map f) taken in
    grown ∙ (ap (λ (l : List ℕ). l ++ f x) so_far ∙ (append_assoc first (flat_map f (take i xs)) (f x) ∙ ap (λ (l : List ℕ). first ++ l) more))

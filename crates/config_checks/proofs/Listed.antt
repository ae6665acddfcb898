-- Values as data, in lists.
use Rattle.std.proofs.Common.{◌≡◌, ℕ, suc, Bool, List, [], ◌∷◌, length, map, refl, ap}
use Rattle.std.specs.List.{list_any}
use Rattle.toml.specs.Data.{Data}
use Rattle.toml.specs.View.{items_of, items_view, view}
use Rattle.toml.specs.declared.value.Value.{Value}
use Rattle.rig_model.specs.config.Reading.{count_of}
use Rattle.config_checks.specs.Faults.{list_of}

list_of_items : (ds : List Data) → list_of (items_of ds) ≡ ds
list_of_items [] = refl
list_of_items (d ∷ ds) = ap (λ (l : List Data). d ∷ l) (list_of_items ds)

pub list_of_view : (vs : List Value) → list_of (items_view vs) ≡ map view vs
list_of_view vs = list_of_items (map view vs)

count_of_items : (ds : List Data) → count_of (items_of ds) ≡ length ds
count_of_items [] = refl
count_of_items (d ∷ ds) = ap (λ (n : ℕ). suc n) (count_of_items ds)

pub count_of_view : (vs : List Value) → count_of (items_view vs) ≡ length vs
count_of_view [] = refl
count_of_view (v ∷ vs) = ap (λ (n : ℕ). suc n) (count_of_view vs)

pub any_of_view : (p : Data → Bool) (vs : List Value) → list_any p (map view vs) ≡ list_any (λ (v : Value). p (view v)) vs
any_of_view p [] = refl
any_of_view p (v ∷ vs) = by (p (view v)) (any_of_view p vs)
  where
    by : (b : Bool) → list_any p (map view vs) ≡ list_any (λ (w : Value). p (view w)) vs → list_any p (view v ∷ map view vs) ≡ list_any (λ (w : Value). p (view w)) (v ∷ vs)
    by b rest = rw rest refl

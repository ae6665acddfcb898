-- Values of an array.
use Rattle.std.proofs.Common.{◌≡◌, List, [], ◌∷◌, length, refl, ap, suc}
use Rattle.toml.specs.View.{items_view}
use Rattle.toml.specs.declared.value.Value.{Value}
use Rattle.rig_config.specs.Reading.{count_of}

pub count_of_values : (vs : List Value) → count_of (items_view vs) ≡ length vs
count_of_values [] = refl
count_of_values (v ∷ vs) = ap suc (count_of_values vs)

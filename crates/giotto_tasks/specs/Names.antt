-- Names, and finite maps from names.
use Rattle.std.specs.Prelude.{nat_eq, Bool, false, ◌||◌, if◌then◌else◌, ℤ, pos, List, [], ◌∷◌, map, Option, Some, None, unwrap_or}
use Rattle.std.specs.Cmp.Lexicographic.{pointwise}
use Rattle.giotto_tasks.specs.declared.names.Name.{Name}

-- two names are the same if their bytes are
abbrev pub same_name : Name → Name → Bool
same_name x y = pointwise nat_eq x y

-- the name is one of these
abbrev pub is_among : List Name → Name → Bool
is_among [] x = false
is_among (n ∷ ns) x = same_name n x || is_among ns x

-- A finite map from names to values, each name once, in the order in which the names were declared.
abbrev pub Valuation : Type 0
Valuation = List (Name × ℤ)

-- the value of a name in the map
abbrev pub value_at : Valuation → Name → Option ℤ
value_at [] x = None
value_at (v ∷ vs) x = if same_name v.0 x then Some v.1 else value_at vs x

-- the map with this value for the name, and every other value as it was
abbrev pub with_value : Valuation → Name → ℤ → Valuation
with_value [] x z = (x, z) ∷ []
with_value (v ∷ vs) x z = if same_name v.0 x then (v.0, z) ∷ vs else v ∷ with_value vs x z

-- a name without a value counts as 0
abbrev pub value_or_zero : Valuation → Name → ℤ
value_or_zero vs x = unwrap_or (value_at vs x) (pos 0)

-- the values of these names, in their order
abbrev pub values_of : Valuation → List Name → List ℤ
values_of vs names = map (value_or_zero vs) names

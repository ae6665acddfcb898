-- Common periods as relations.
use Rattle.std.specs.Prelude.{◌≡◌, ℕ, ◌<◌, ◌≤◌, true, List, [], ◌∷◌, Option, None, IsSomeAnd}
use Rattle.rig_model.specs.CommonPeriods.{is_common_multiple}

-- the least number above 0 that all of these divide
pub record IsLeastCommonMultiple (ks : List ℕ) (l : ℕ) : Type 0 where
  pub positive : 0 < l
  pub common : is_common_multiple ks l ≡ true
  pub least : (n : ℕ) → 0 < n → is_common_multiple ks n ≡ true → l ≤ n

-- the least common multiple of these periods, or `None` if there are no periods
abbrev pub IsCommonPeriod : List ℕ → Option ℕ → Type 0
IsCommonPeriod [] o = o ≡ None
IsCommonPeriod (k ∷ ks) o = IsSomeAnd o (IsLeastCommonMultiple (k ∷ ks))

-- The copy of a waiting program: all of it, with shares of the same bodies.
use Rattle.std.specs.Prelude.{◌≡◌, map, Option, Some, None, option_map, IsSomeAnd}
use Rattle.std.specs.Arc.{arc_value}
use Rattle.tenant_state.specs.declared.tenants.waiting.Waiting.{Waiting}

-- a copy of a waiting program
pub record IsCopied (waiting copy : Waiting) : Type 0 where
  pub program : copy.program ≡ waiting.program
  pub values : copy.beginning.values.items ≡ waiting.beginning.values.items
  pub shares : map (option_map arc_value) copy.beginning.shares.items ≡ map (option_map arc_value) waiting.beginning.shares.items
  pub carried : copy.carried.items ≡ waiting.carried.items

-- a waiting program, if there is one, is copied
abbrev pub AreCopied : Option Waiting → Option Waiting → Type 0
AreCopied None copy = copy ≡ None
AreCopied (Some waiting) copy = IsSomeAnd copy (IsCopied waiting)

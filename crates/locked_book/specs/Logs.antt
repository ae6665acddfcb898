-- A log as its book has it.
use Rattle.std.specs.Prelude.{ℕ, List}
use Rattle.rig_model.specs.declared.logged.Logged.{Logged}

-- the entries, the oldest first, and for how many there is space
pub record LogValue : Type 0 where
  pub items : List Logged
  pub capacity : ℕ

-- The pieces in which a history goes to its file.
use Rattle.std.specs.Prelude.{ℕ, List, [], ◌∷◌}
use Rattle.rig_history.specs.Entries.{tick_after}
use Rattle.rig_model.specs.declared.logged.Logged.{Logged}

-- a piece: the bytes that are left to write, and the number of the next instant after its entries
pub record PieceValue : Type 0 where
  pub left : List ℕ
  pub next_tick : ℕ

-- the number of the next instant after these entries, the oldest first, given the one before them
abbrev pub tick_after_log : ℕ → List Logged → ℕ
tick_after_log tick [] = tick
tick_after_log tick (e ∷ log) = tick_after_log (tick_after tick e) log

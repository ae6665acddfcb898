-- When a job has a box of its own, and how dense the others are.
use Rattle.std.specs.Prelude.{ℕ, ◌+◌, ◌*◌, ◌-◌, ◌/◌, ◌<◌, min}

-- a box of fewer pixels isn't drawn
abbrev pub least_width : ℕ
least_width = 6

-- the quarters of a column that jobs last, rounded up: 0 if none does, and 4 at most
abbrev pub quarters : ℕ → ℕ → ℕ
quarters lasting whole = min 4 ((4 * lasting + (whole - 1)) / whole)

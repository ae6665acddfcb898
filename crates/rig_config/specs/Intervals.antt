-- An interval of values: from a least to a greatest one.
use Rattle.std.specs.Prelude.{ℕ, ◌-◌, ◌^◌, Bool, ◌&&◌, if◌then◌else◌, ℤ, pos, neg_ℤ, int_le, int_lt, Option}
use Rattle.std.specs.Bool.{then_some}

pub record Interval : Type 0 where
  pub low : ℤ
  pub high : ℤ

-- all values: from the least i64 to the greatest
abbrev pub whole : Interval
whole = record { low = neg_ℤ (pos (2 ^ 63)); high = pos (2 ^ 63 - 1) }

abbrev pub is_whole : Interval → Bool
is_whole i = int_le i.low whole.low && int_le whole.high i.high

-- its least value isn't above its greatest
abbrev pub is_in_order : Interval → Bool
is_in_order i = int_le i.low i.high

-- from the one value to the other, if the first isn't above the second
abbrev pub from_to : ℤ → ℤ → Option Interval
from_to low high = then_some (int_le low high) (record { low = low; high = high })

-- the value is in it
abbrev pub is_within : Interval → ℤ → Bool
is_within i z = int_le i.low z && int_le z i.high

-- the value itself, or the least if it is below that, or the greatest if it is above that
abbrev pub clamped : Interval → ℤ → ℤ
clamped i z = if int_lt z i.low then i.low else if int_lt i.high z then i.high else z

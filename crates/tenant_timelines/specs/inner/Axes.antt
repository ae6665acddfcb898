-- The axis of a port's values.
use Rattle.std.specs.Prelude.{Option, Some, None, ℤ}
use Rattle.std.specs.Int.{int_min, int_max}
use Rattle.tenant_timelines.specs.declared.ports.Range.{Range}

-- the least range that has another and a value
abbrev pub with_value : Option Range → ℤ → Range
with_value None v = record { least = v; greatest = v }
with_value (Some r) v = record { least = int_min r.least v; greatest = int_max r.greatest v }

-- Bounds: how a configuration gives them, and how they clamp a value.
use Rattle.std.proofs.Common.{◌≡◌, ℕ, List, codes, pos, negsuc, true, Some, None, Ok, Err, refl}
use Rattle.toml.specs.Data.{Data, Members, no_members, member, integer, boolean}
use Rattle.rig_config.specs.Fields.{tenant_field}
use Rattle.rig_config.specs.Intervals.{Interval, clamped, from_to, whole}
use Rattle.rig_config.specs.Reading.{bounds_of}
use Rattle.rig_config.specs.declared.faults.ConfigFault.TheVariants.{Missing, Range}
use Rattle.rig_config.specs.declared.faults.Field.TheVariants as field

-- from 0 to 5
to_five : Interval
to_five = record { low = pos 0; high = pos 5 }

below : clamped to_five (negsuc 3) ≡ pos 0
unfolding to_five
below = refl

above : clamped to_five (pos 6) ≡ pos 5
unfolding to_five
above = refl

at_the_end : clamped to_five (pos 5) ≡ pos 5
unfolding to_five
at_the_end = refl

between : clamped to_five (pos 2) ≡ pos 2
unfolding to_five
between = refl

from_nine_to_seven : from_to (pos 9) (pos 7) ≡ None
from_nine_to_seven = refl

from_seven_to_seven : from_to (pos 7) (pos 7) ≡ Some (record { low = pos 7; high = pos 7 })
from_seven_to_seven = refl

low_and_high : Data → Data → Members
low_and_high low high = member (codes "high") high (member (codes "low") low no_members)

-- version 1 has no bounds, whatever its fields are
of_version_one : bounds_of 1 0 (low_and_high (boolean true) (integer (pos 4))) ≡ Ok whole
unfolding low_and_high
of_version_one = refl

of_version_two : bounds_of 2 0 (low_and_high (integer (negsuc 0)) (integer (pos 5))) ≡ Ok (record { low = negsuc 0; high = pos 5 })
unfolding low_and_high
of_version_two = refl

-- the greatest value is below the least
out_of_order : bounds_of 2 0 (low_and_high (integer (pos 5)) (integer (pos 4))) ≡ Err (Range (tenant_field 0 field.High))
unfolding low_and_high
out_of_order = refl

-- the least value is checked before the greatest
low_first : bounds_of 2 0 no_members ≡ Err (Missing (tenant_field 0 field.Low))
low_first = refl

high_behind : bounds_of 2 1 (member (codes "low") (integer (pos 5)) no_members) ≡ Err (Missing (tenant_field 1 field.High))
high_behind = refl

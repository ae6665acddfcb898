-- Replies of docs/HOST.md, and whether they count as the same answer.
use Rattle.std.proofs.Common.{◌≡◌, true, false, refl, codes}
use Rattle.run_comparisons.specs.Alike.{are_alike}

pub same_bytes : are_alike 0 (codes "beta ok port g 6\n") (codes "beta ok port g 6\n") ≡ true
same_bytes = refl

pub no_tolerance : are_alike 0 (codes "beta ok port g 6\n") (codes "beta ok port g 7\n") ≡ false
no_tolerance = refl

pub within : are_alike 2 (codes "beta ok port g 1\n") (codes "beta ok port g -1\n") ≡ true
within = refl

pub beyond : are_alike 1 (codes "beta ok port g 1\n") (codes "beta ok port g -1\n") ≡ false
beyond = refl

-- the ends of an i64
pub whole_range : are_alike 9223372036854775807 (codes "op ok lines -9223372036854775808\n") (codes "op ok lines 9223372036854775807\n") ≡ false
whole_range = refl

pub all_values : are_alike 2 (codes "alpha ok all s=4 a=1 o=1 T.i=4\n") (codes "alpha ok all s=4 a=-1 o=-1 T.i=4\n") ≡ true
all_values = refl

pub other_ports : are_alike 2 (codes "alpha ok all a=1\n") (codes "alpha ok all b=1\n") ≡ false
other_ports = refl

pub values_of_records : are_alike 2 (codes "alpha ok trace 1:out:o:1 1:act:a:1\n") (codes "alpha ok trace 1:out:o:-1 1:act:a:-1\n") ≡ true
values_of_records = refl

pub ticks_of_records : are_alike 2 (codes "alpha ok trace 1:act:a:1\n") (codes "alpha ok trace 2:act:a:1\n") ≡ false
ticks_of_records = refl

pub one_value_more : are_alike 2 (codes "op ok lines 5\n") (codes "op ok lines 5 5\n") ≡ false
one_value_more = refl

pub mode_time : are_alike 2 (codes "beta ok mode running n 1\n") (codes "beta ok mode running n 0\n") ≡ false
mode_time = refl

pub bounds_of_rows : are_alike 2 (codes "alpha ok rows offer:a:beta:0:9\n") (codes "alpha ok rows offer:a:beta:0:8\n") ≡ false
bounds_of_rows = refl

pub refusals : are_alike 2 (codes "beta err rule 3\n") (codes "beta err rule 4\n") ≡ false
refusals = refl

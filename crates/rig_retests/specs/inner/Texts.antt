-- The texts of a bind, of its place in a script and of what becomes of a line.
use Rattle.std.specs.Prelude.{ℕ, ◌-◌, ◌==◌, nat_le, if◌then◌else◌, List, ◌++◌, Option, Some, None, codes}
use Rattle.std.specs.Fmt.{decimal}

-- "SENSOR from SUPPLIER.ACTUATOR"
abbrev pub text_of_bind : List ℕ → List ℕ → List ℕ → List ℕ
text_of_bind sensor supplier actuator = sensor ++ (codes " from " ++ (supplier ++ (codes "." ++ actuator)))

-- "line LINE tick TICK", or "tick TICK" if the line isn't known
abbrev pub text_of_place : Option ℕ → ℕ → List ℕ
text_of_place None tick = codes "tick " ++ decimal tick
text_of_place (Some line) tick = codes "line " ++ (decimal line ++ (codes " tick " ++ decimal tick))

-- "KEPT of EVENTS"
abbrev pub text_of_part : ℕ → ℕ → List ℕ
text_of_part kept events = decimal kept ++ (codes " of " ++ decimal events)

-- what becomes of a line with `events` events, of which `left_out` are left out
abbrev pub text_of_fate : ℕ → ℕ → List ℕ
text_of_fate events left_out =
    if events == 0 then codes "-"
    else (if left_out == 0 then codes "kept" else (if nat_le events left_out then codes "left out" else text_of_part (events - left_out) events))

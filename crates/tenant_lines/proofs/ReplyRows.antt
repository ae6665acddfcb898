-- The text of a trace and of rows, and whether a copy of a trace takes memory, computed from the definitions.
use Rattle.std.proofs.Common.{◌≡◌, false, pos, neg_ℤ, [], ◌∷◌, codes, refl}
use Rattle.std.specs.Fmt.{digits}
use Rattle.tenant_trace.specs.declared.records.Happening.TheVariants.{Start, Mode, Act, Out, Asked, Overrun, Replaced}
use Rattle.tenant_lines.specs.declared.replies.Reply.TheVariants.{Rows, Trace}
use Rattle.tenant_grants.specs.declared.rows.Row.TheVariants as row
use Rattle.tenant_grants.specs.config.Intervals.{whole}
use Rattle.tenant_lines.specs.Replies.{text_of_reply}
use Rattle.tenant_lines.specs.cited.Copies.{has_list}

-- the adder, started before the first tick, at the end of its first period
pub trace_of_adder :
    text_of_reply (Trace (record { tick = 0; happening = Start (codes "m") } ∷ record { tick = 0; happening = Act (codes "a") (pos 0) }
    ∷ record { tick = 2; happening = Out (codes "o") (pos 6) } ∷ record { tick = 2; happening = Act (codes "a") (pos 6) } ∷ []))
    ≡ codes "ok trace 0:start:m 0:act:a:0 2:out:o:6 2:act:a:6"
unfolding digits
trace_of_adder = refl

-- a switch, a value below 0, an installation, and both ways to stop
pub other_records :
    text_of_reply (Trace (record { tick = 7; happening = Mode (codes "n") } ∷ record { tick = 8; happening = Act (codes "a") (neg_ℤ (pos 12)) }
    ∷ record { tick = 9; happening = Replaced (codes "k") } ∷ record { tick = 10; happening = Asked }
    ∷ record { tick = 11; happening = Overrun (codes "T") } ∷ []))
    ≡ codes "ok trace 7:mode:n 8:act:a:-12 9:replaced:k 10:stop:asked 11:stop:overrun:T"
unfolding digits
other_records = refl

-- if all values are within an offer's bounds, they aren't printed
pub rows_told :
    text_of_reply (Rows (row.Offer (record { actuator = codes "a"; tenant = codes "beta"; bounds = whole }) ∷ row.Offer (record { actuator = codes "b"; tenant = codes "beta"; bounds = record { low = neg_ℤ (pos 1); high = pos 5 } })
    ∷ row.Bind (record { sensor = codes "g"; tenant = codes "beta"; actuator = codes "a" }) ∷ []))
    ≡ codes "ok rows offer:a:beta offer:b:beta:-1:5 bind:g:beta:a"
unfolding digits
rows_told = refl

pub no_records : text_of_reply (Trace []) ≡ codes "ok trace"
no_records = refl

-- a copy of these takes no memory
pub no_records_take_none : has_list (Trace []) ≡ false
no_records_take_none = refl

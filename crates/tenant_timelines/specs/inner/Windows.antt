-- Which part of a run is drawn.
use Rattle.std.specs.Prelude.{Option, Some, None, ℕ, ◌+◌, ◌*◌, ◌/◌, ◌<◌, min, max, nat_lt, unwrap_or, if◌then◌else◌}
use Rattle.tenant_timelines.specs.declared.windows.Span.{Span}

-- the number of the first drawn instant
abbrev pub first_drawn : Option ℕ → ℕ
first_drawn from = unwrap_or from 0

-- the number of the instant that follows the last drawn one, of a run with this many
abbrev pub next_drawn : Option ℕ → ℕ → ℕ
next_drawn None instants = instants
next_drawn (Some last) instants = min (last + 1) instants

-- what lasts in both
abbrev pub span_of : Span → Span → Option Span
span_of s t = if nat_lt (max s.from t.from) (min s.until t.until)
    then Some (record { from = max s.from t.from; until = min s.until t.until })
    else None

-- an instant N is at place 2 N + 1
abbrev pub has_instant : Span → Type 0
has_instant s = 2 * (s.from / 2) + 1 < s.until

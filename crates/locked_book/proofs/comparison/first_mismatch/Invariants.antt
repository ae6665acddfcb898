use Rattle.std.proofs.Common.{◌≡◌, ◌<◌, ℕ, length, slice_index_or, take, false}
use Rattle.host_core.specs.HostStanding.{HostStanding}
use Rattle.locked_book.specs.Books.{Matches, has_seat}
use Rattle.locked_book.proofs.comparison.first_mismatch.Given as goal

abbrev pub invariant-loop-i : goal.invariant-loop-i
invariant-loop-i g l = (length l.marks ≡ length l.seats) × ((seat : ℕ) → slice_index_or l.marks seat false ≡ has_seat (take l.i l.passes) seat)
    × ((host : HostStanding) (k : ℕ) → k < l.i → Matches (record { base = l.base; host = host; log = l.log; seats = length l.seats }) l.passes k)

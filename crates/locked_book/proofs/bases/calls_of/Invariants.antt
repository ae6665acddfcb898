use Rattle.std.proofs.Common.{◌≡◌, map, take}
use Rattle.locked_book.specs.Books.{SeatValue}
use Rattle.locked_book.proofs.bases.calls_of.Given as goal

abbrev pub invariant-loop-seat : goal.invariant-loop-seat
invariant-loop-seat l = l.calls.items ≡ map (λ (s : SeatValue). s.calls) (take l.seat-index l.seats)

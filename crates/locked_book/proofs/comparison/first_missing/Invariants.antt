use Rattle.std.proofs.Common.{◌≡◌, ◌<◌, ℕ, [], slice_index_or, false}
use Rattle.locked_book.specs.inner.Books.{seat_at}
use Rattle.locked_book.proofs.comparison.first_missing.Given as goal

abbrev pub invariant-loop-seat : goal.invariant-loop-seat
invariant-loop-seat l = (s : ℕ) → s < l.seat → slice_index_or l.marks s false ≡ false → (seat_at l.seats s).places ≡ []

use Rattle.std.proofs.Common.{◌≡◌, ◌<◌, ℕ, slice_index_or}
use Rattle.locked_book.proofs.bases.has_same_calls.Given as goal

abbrev pub invariant-loop-seat : goal.invariant-loop-seat
invariant-loop-seat l = (s : ℕ) → s < l.seat → slice_index_or l.ones s 0 ≡ slice_index_or l.others s 0

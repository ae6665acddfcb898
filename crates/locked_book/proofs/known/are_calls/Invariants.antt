use Rattle.std.proofs.Common.{◌≡◌, map, take, drop, Some}
use Rattle.locked_book.specs.inner.Books.{call_at}
use Rattle.locked_book.proofs.known.are_calls.Given as goal

abbrev pub invariant-loop-k : goal.invariant-loop-k
invariant-loop-k l = map (call_at l.log) (take l.k l.places) ≡ map Some (take l.k (drop l.before l.calls))

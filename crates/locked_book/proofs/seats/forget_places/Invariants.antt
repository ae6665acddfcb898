use Rattle.std.proofs.Common.{◌≡◌, ◌++◌, drop, length, map, take}
use Rattle.locked_book.specs.inner.Books.{without_places}
use Rattle.locked_book.proofs.seats.forget_places.Given as goal

abbrev pub invariant-loop-i : goal.invariant-loop-i
invariant-loop-i l = l.seats ≡ map without_places (take l.i l.initial.seats) ++ drop l.i l.initial.seats

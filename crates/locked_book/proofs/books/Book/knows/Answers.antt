use Rattle.std.proofs.Common.{◌+◌, ◌<◌, ◌^◌, arith, length}
use Rattle.locked_book.specs.Books.{BookValue}
use Rattle.locked_book.proofs.Steps.{fits}
use Rattle.locked_book.proofs.books.Book.knows.Goals as goal

pub returns : goal.returns
returns g c = rw (← c.self.view_is, ← c.as_slice.ensures, ← c.deref.ensures.value) (c.is_known.ensures c.self.inside.host)

pub is_known-requires-clause-bound : goal.is_known-requires-clause-bound
is_known-requires-clause-bound g c =
    let book : BookValue = record { base = c.self.inside.base; host = c.self.inside.host; log = c.self.inside.log.items; seats = length c.self.inside.seats.items } in
    let fit = fits g.N.Naming.config g.N.Naming.first_tick book c.self.inside.seats.items c.self.invariant.2 in
    rw c.as_slice.ensures (omega (arith, fit))

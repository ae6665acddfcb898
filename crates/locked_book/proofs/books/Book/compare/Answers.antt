use Rattle.std.proofs.Common.{◌+◌, ◌<◌, ◌^◌, arith, length}
use Rattle.locked_book.specs.Books.{BookValue}
use Rattle.locked_book.proofs.Steps.{fits}
use Rattle.locked_book.proofs.books.Book.compare.Goals as goal

pub returns-clause-missing : goal.returns-clause-missing
returns-clause-missing g c = λ seat e. rw (← c.self.view_is, ← c.as_slice.ensures, ← c.deref.ensures.value) (c.compare.ensures.missing c.self.inside.host seat e)

pub compare-requires-clause-bound : goal.compare-requires-clause-bound
compare-requires-clause-bound g c =
    let book : BookValue = record { base = c.self.inside.base; host = c.self.inside.host; log = c.self.inside.log.items; seats = length c.self.inside.seats.items } in
    let fit = fits g.N.Naming.config g.N.Naming.first_tick book c.self.inside.seats.items c.self.invariant.2 in
    rw c.as_slice.ensures (omega (arith, fit))

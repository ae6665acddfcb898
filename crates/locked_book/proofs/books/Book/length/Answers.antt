use Rattle.std.proofs.Common.{◌+◌, ◌<◌, ◌^◌, arith, length, subst}
use Rattle.locked_book.specs.Books.{BookValue, length_of}
use Rattle.locked_book.proofs.Steps.{fits}
use Rattle.locked_book.proofs.books.Book.length.Goals as goal

pub overflow_add-result : goal.overflow_add-result
overflow_add-result g c =
    let book : BookValue = record { base = c.self.inside.base; host = c.self.inside.host; log = c.self.inside.log.items; seats = length c.self.inside.seats.items } in
    let fit = fits g.N.Naming.config g.N.Naming.first_tick book c.self.inside.seats.items c.self.invariant.2 in
    omega (arith, fit, c.entries_before.ensures, c.len.ensures)

pub returns-clause-bound : goal.returns-clause-bound
returns-clause-bound g c =
    let book : BookValue = record { base = c.self.inside.base; host = c.self.inside.host; log = c.self.inside.log.items; seats = length c.self.inside.seats.items } in
    let fit = fits g.N.Naming.config g.N.Naming.first_tick book c.self.inside.seats.items c.self.invariant.2 in
    subst (λ (b : BookValue). length_of b + 1 < 2 ^ 128) c.self.view_is (omega (arith, fit))

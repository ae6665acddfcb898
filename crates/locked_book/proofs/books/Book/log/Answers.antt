use Rattle.std.proofs.Common.{subst}
use Rattle.locked_book.specs.Books.{BookValue, IsLegalFrom}
use Rattle.locked_book.proofs.Steps.{legal_now}
use Rattle.locked_book.proofs.books.Book.log.Goals as goal

pub returns-clause-legal : goal.returns-clause-legal
returns-clause-legal g c =
    subst (λ (b : BookValue). IsLegalFrom g.N.Naming.config g.N.Naming.first_tick b.base b.log b.host) c.self.view_is
    (legal_now g.N.Naming.config g.N.Naming.first_tick _ c.self.inside.seats.items c.self.invariant.2)

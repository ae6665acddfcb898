use Rattle.std.proofs.Common.{◌≡◌, ◌↔◌, true, List, length, subst}
use Rattle.std.specs.Prelude.{option_copied}
use Rattle.rig_model.specs.declared.logged.Logged.{Logged}
use Rattle.locked_book.specs.Books.{BookValue, BeginsAt, EndsIn}
use Rattle.locked_book.specs.inner.Books.{Reached}
use Rattle.locked_book.proofs.SameBases.{begins_exact, begun}
use Rattle.locked_book.proofs.books.Book.begins_at.Goals as goal

pub returns-clause-exact : goal.returns-clause-exact
returns-clause-exact g c =
    let rig = g.N.Naming.config in
    let first = g.N.Naming.first_tick in
    let is = c.self.invariant.2 in
    subst (λ (b : BookValue). (c.begins_at.result ≡ true) ↔ BeginsAt rig first (option_copied c.args.end) b.base) c.self.view_is
    (begins_exact rig first is.reached.0 c.self.inside.base (option_copied c.args.end) c.begins_at.result is.reached.1 c.begins_at.ensures)

pub returns-clause-reached : goal.returns-clause-reached
returns-clause-reached g c =
    let rig = g.N.Naming.config in
    let first = g.N.Naming.first_tick in
    let is = c.self.invariant.2 in
    subst (λ (b : BookValue). c.begins_at.result ≡ true → (past : List Logged) → Reached rig first (option_copied c.args.end) past → EndsIn rig first past b.base) c.self.view_is
    (λ e past here.
    begun rig first (option_copied c.args.end) c.self.inside.base past is.reached.0 is.reached.1
    ((begins_exact rig first is.reached.0 c.self.inside.base (option_copied c.args.end) c.begins_at.result is.reached.1 c.begins_at.ensures).0 e) here)

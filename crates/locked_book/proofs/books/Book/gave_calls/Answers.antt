use Rattle.std.proofs.Common.{◌≡◌, IfSome, subst, length}
use Rattle.rig_model.specs.Logs.{calls_of_seat}
use Rattle.locked_book.specs.Books.{BookValue, PassValue}
use Rattle.locked_book.proofs.Numbers.{first_calls}
use Rattle.locked_book.proofs.books.Book.gave_calls.Goals as goal

pub returns-in-Some : goal.returns-in-Some
returns-in-Some g c known =
    let book : BookValue = record { base = c.self.inside.base; host = c.self.inside.host; log = c.self.inside.log.items; seats = length c.self.inside.seats.items } in
    let pass : PassValue = record { seat = c.pass.inside.seat; calls = c.pass.inside.calls.items; seen = c.pass.inside.seen } in
    let calls : pass.calls ≡ calls_of_seat pass.seat c.in-Some.front = subst (λ front. IfSome front (λ f. pass.calls ≡ calls_of_seat pass.seat f)) c.in-Some.is c.pass.invariant in
    rw (← c.self.view_is, ← c.pass.view_is) (first_calls book pass c.in-Some.front calls (c.begins_with.ensures known))

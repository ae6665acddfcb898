use Rattle.std.proofs.Common.{arith, length, refl, ap}
use Rattle.rig_model.specs.declared.events.Event.TheVariants as event
use Rattle.host_core.specs.HostStanding.{IsOwn}
use Rattle.rig_model.specs.declared.logged.Logged.TheVariants as logged
use Rattle.locked_book.specs.Books.{BookValue}
use Rattle.locked_book.proofs.Kept.{takes_as}
use Rattle.locked_book.proofs.Steps.{plain_on, own_counted, given_counted}
use Rattle.locked_book.proofs.books.Book.done.Goals as goal

pub invariant_of-self-in-Counted : goal.invariant_of-self-in-Counted
invariant_of-self-in-Counted g c =
    let rig = g.N.Naming.config in
    let first = g.N.Naming.first_tick in
    let book : BookValue = record { base = c.self.inside.base; host = c.self.inside.host; log = c.self.inside.log.items; seats = length c.self.inside.seats.items } in
    let left = c.done.ensures.left c.in-Counted.is in
    let room = c.self.invariant.0 in
    let own : IsOwn book.host c.args.done = own_counted book.host c.args.done (c.done.ensures.counted.0 c.in-Counted.is) in (
      omega (arith, left, room, c.push_reserved.ensures.len, c.push_reserved.ensures.capacity),
      c.self.invariant.1,
      rw (c.push_reserved.ensures.items, c.copy.ensures, c.id.ensures)
          (plain_on rig first book c.self.inside.seats.items c.done.new.self (logged.Done c.args.done.id) c.self.invariant.2
          (λ i seat. refl) (λ seat. refl)
          (λ setting state st. (c.done.ensures.step own setting state st, given_counted _ c.done.result (c.done.ensures.answer own setting state st) c.in-Counted.is))
          (omega (arith, left))),
    )

pub returns-in-Counted-clause-step : goal.returns-in-Counted-clause-step
returns-in-Counted-clause-step g c = λ e.
    takes_as (event.Done c.args.done.id) c.self.inside.host c.args.self.now.host c.done.new.self (ap (λ (b : BookValue). b.host) c.self.view_is)
    (c.done.ensures.step (own_counted c.self.inside.host c.args.done (c.done.ensures.counted.0 c.in-Counted.is)))

use Rattle.std.proofs.Common.{◌≡◌, ◌<◌, length, arith, ap, sym, subst, ◌∙◌}
use Rattle.std.proofs.lemmas.Bool.Decides.{nat_tests}
use Rattle.locked_book.specs.Books.{BookValue, PassValue, SeatValue, Knows, length_of}
use Rattle.locked_book.specs.inner.Books.{HasFirstCalls, seat_at}
use Rattle.locked_book.proofs.Steps.{no_seat}
use Rattle.locked_book.proofs.Numbers.{known_by_number, number_of_known}
use Rattle.locked_book.proofs.books.Book.knows_by_number.Goals as goal

pub returns-then-seat-len : goal.returns-then-seat-len
returns-then-seat-len g c =
    let rig = g.N.Naming.config in
    let first = g.N.Naming.first_tick in
    let book : BookValue = record { base = c.self.inside.base; host = c.self.inside.host; log = c.self.inside.log.items; seats = length c.self.inside.seats.items } in
    let pass : PassValue = record { seat = c.pass.inside.seat; calls = c.pass.inside.calls.items; seen = c.pass.inside.seen } in
    let front : HasFirstCalls book pass = subst (λ b. HasFirstCalls b pass) (sym c.self.view_is) (subst (HasFirstCalls c.args.self.now) (sym c.pass.view_is) c.requires) in
    let found = c.in-Some.ensures.lookup.3 in
    let given : pass.seat < book.seats = subst (λ seats. pass.seat < length seats) c.deref.ensures.value found.0 in
    let read : c.in-Some.seat.now ≡ seat_at c.self.inside.seats.items pass.seat = found.1 no_seat ∙ ap (λ seats. seat_at seats pass.seat) c.deref.ensures.value in
    let number : (seat_at c.self.inside.seats.items pass.seat).calls ≡ length pass.calls =
    ap (λ (s : SeatValue). s.calls) (sym (c.seat.view_is ∙ read)) ∙ (let same = c.if-seat-len.true in let l = c.len.ensures in grind (arith, nat_tests, same, l)) in
    let length_is : c.length.result ≡ length_of book = c.length.ensures.length ∙ ap length_of (sym c.self.view_is) in (
      (λ seen. rw (← c.self.view_is, ← c.pass.view_is) (known_by_number rig first book c.self.inside.seats.items pass c.self.invariant.2 front given number (grind (arith, nat_tests, seen, length_is)))),
      (λ known. let k : Knows book pass = rw (c.self.view_is, c.pass.view_is) known in let seen = k.seen in grind (arith, nat_tests, seen, length_is)),
    )

pub returns-else-seat-len : goal.returns-else-seat-len
returns-else-seat-len g c =
    let book : BookValue = record { base = c.self.inside.base; host = c.self.inside.host; log = c.self.inside.log.items; seats = length c.self.inside.seats.items } in
    let pass : PassValue = record { seat = c.pass.inside.seat; calls = c.pass.inside.calls.items; seen = c.pass.inside.seen } in
    let read : c.in-Some.seat.now ≡ seat_at c.self.inside.seats.items pass.seat = c.in-Some.ensures.lookup.3.1 no_seat ∙ ap (λ seats. seat_at seats pass.seat) c.deref.ensures.value in
    let other = c.if-seat-len.false in (
      (λ same. absurd (let o = other in grind (arith, nat_tests, same, o))),
      (λ known.
          let k : Knows book pass = rw (c.self.view_is, c.pass.view_is) known in
          let number = number_of_known g.N.Naming.config g.N.Naming.first_tick book c.self.inside.seats.items pass c.self.invariant.2 k in
          let seat = ap (λ (s : SeatValue). s.calls) (c.seat.view_is ∙ read) in
          let l = c.len.ensures in
          grind (arith, nat_tests, number, seat, l)),
    )

pub returns-in-None : goal.returns-in-None
returns-in-None g c = (
  (λ e. absurd (cc)),
  (λ known.
      let book : BookValue = record { base = c.self.inside.base; host = c.self.inside.host; log = c.self.inside.log.items; seats = length c.self.inside.seats.items } in
      let pass : PassValue = record { seat = c.pass.inside.seat; calls = c.pass.inside.calls.items; seen = c.pass.inside.seen } in
      let k : Knows book pass = rw (c.self.view_is, c.pass.view_is) known in
      let given : pass.seat < length c.deref.result.now = subst (λ seats. pass.seat < length seats) (sym c.deref.ensures.value) k.given in
      let none = c.in-None.ensures.lookup.0 in
      absurd (grind (arith, nat_tests, given, none))),
)

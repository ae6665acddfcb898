use Rattle.std.proofs.Common.{◌≡◌, ◌<◌, ◌≤◌, arith, length}
use Rattle.locked_book.specs.Books.{BookValue, PassValue, calls_before, length_of}
use Rattle.locked_book.specs.inner.Books.{seat_at}
use Rattle.locked_book.proofs.Steps.{no_seat, places_within, knows_iff}
use Rattle.locked_book.proofs.known.is_known.Goals as goal

pub are_calls-requires-clause-within : goal.are_calls-requires-clause-within
are_calls-requires-clause-within g c =
    let read : c.in-Some.seat.now ≡ seat_at c.args.seats.now c.pass.inside.seat = c.in-Some.ensures.lookup.3.1 no_seat in
    rw (c.places.ensures, read) (places_within c.args.log.now c.args.seats.now c.pass.inside.seat c.requires.places)

pub returns : goal.returns
returns g c = λ host.
    let read : c.in-Some.seat.now ≡ seat_at c.args.seats.now c.pass.inside.seat = c.in-Some.ensures.lookup.3.1 no_seat in
    let book : BookValue = record { base = c.args.base.now; host = host; log = c.args.log.now; seats = length c.args.seats.now } in
    let pass : PassValue = record { seat = c.pass.inside.seat; calls = c.pass.inside.calls.items; seen = c.pass.inside.seen } in
    let given : pass.seat < book.seats = c.in-Some.ensures.lookup.3.0 in
    let before : calls_before book.base pass.seat ≤ length pass.calls = (let b = c.if-before-len.false in omega (arith, b, c.calls_before-before.ensures, c.len.ensures)) in
    let seen : pass.seen ≤ length_of book = (let s = c.if-pass-entries_before.false in let l = c.entries_before.ensures in omega (arith, s, l)) in
    rw (← c.pass.view_is)
    (knows_iff book c.args.seats.now pass c.are_calls.result c.requires.places given before seen
    (rw (← c.deref.ensures.value, ← read, ← c.places.ensures, ← c.calls_before-before.ensures) c.are_calls.ensures))

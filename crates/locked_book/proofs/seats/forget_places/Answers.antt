use Rattle.std.proofs.Common.{◌≡◌, ◌<◌, ◌∙◌, length, arith, ap, set, sym}
use Rattle.std.proofs.Math.ListN.{get_or}
use Rattle.locked_book.specs.Books.{SeatValue}
use Rattle.locked_book.specs.inner.Books.{without_places}
use Rattle.locked_book.proofs.Emptied.{changed_more, next_as_before}
use Rattle.locked_book.proofs.seats.forget_places.Goals as goal

pub loop-i-preserved : goal.loop-i-preserved
loop-i-preserved c =
    let i = c.loop-i.i in
    let all = c.args.seats.now in
    let seat = c.index-seats-i.result in
    let at : seat ≡ get_or all i seat = c.index-seats-i.is ∙ (ap (λ seats. get_or seats i seat) c.loop-i.invariant ∙ next_as_before without_places all i seat) in
    let end = c.loop-i-test.true in
    ap (λ seats. set seats i c.forget_places.new.self) c.loop-i.invariant ∙ changed_more without_places all i seat c.forget_places.new.self (omega (arith, end)) (c.forget_places.ensures ∙ ap without_places (sym c.index-seats-i.is)) at

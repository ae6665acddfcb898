use Rattle.std.proofs.Common.{◌+◌, ◌^◌, ◌≤◌, refl, arith}
use Rattle.locked_book.specs.inner.Places.{ApartWithin}
use Rattle.locked_book.proofs.NextStarts.{joined, whole, whole_to}
use Rattle.locked_book.proofs.standing.all_apart.Goals as goal

pub returns-in_default-checked_add : goal.returns-in_default-checked_add
returns-in_default-checked_add c =
    let entries = c.args.entries.now in
    let start = c.in-Some.start in
    let past = c.in_default-checked_add.ensures in
    let reaches : 2 ^ 128 ≤ start + 524288 = omega (arith, past) in
    let before : ApartWithin entries 0 start = joined entries 0 c.loop-start.from start c.loop-start.invariant c.in-Some.ensures.next.1 in
    let there : ApartWithin entries start (start + 524288) = c.if-not-is_apart_within.ensures.0 refl in
    whole_to entries (start + 524288) c.next_window.ensures.fit (joined entries 0 start (start + 524288) before there) reaches

pub returns : goal.returns
returns c = whole c.args.entries.now c.next_window.ensures.fit (joined c.args.entries.now 0 c.loop-start.from (2 ^ 128) c.loop-start.invariant (c.in_default.ensures.next (2 ^ 128)))

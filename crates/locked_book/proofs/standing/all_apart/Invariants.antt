use Rattle.std.proofs.Common.{◌-◌, ◌^◌}
use Rattle.locked_book.specs.inner.Places.{ApartWithin}
use Rattle.locked_book.proofs.standing.all_apart.Given as goal

abbrev pub invariant-loop-start : goal.invariant-loop-start
invariant-loop-start l = ApartWithin l.entries 0 l.from

abbrev pub decreases-loop-start : goal.decreases-loop-start
decreases-loop-start l = 2 ^ 128 - l.from

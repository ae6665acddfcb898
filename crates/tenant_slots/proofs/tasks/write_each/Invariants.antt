use Rattle.std.proofs.Common.{◌≡◌, length, drop}
use Rattle.giotto_check.specs.cited.Slots.{with_slots}
use Rattle.tenant_slots.proofs.tasks.write_each.Given as goal

abbrev pub invariant-loop-slot : goal.invariant-loop-slot
invariant-loop-slot l =
    let i = length l.yielded in
    with_slots l.values (drop i l.slots) (drop i l.numbers) ≡ with_slots l.initial.values l.slots l.numbers

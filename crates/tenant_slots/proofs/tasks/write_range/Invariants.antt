use Rattle.std.proofs.Common.{◌≡◌, length, drop}
use Rattle.std.specs.List.{range_with_len}
use Rattle.giotto_check.specs.cited.Slots.{with_slots}
use Rattle.tenant_slots.proofs.tasks.write_range.Given as goal

abbrev pub invariant-loop-i : goal.invariant-loop-i
invariant-loop-i l =
    let slots = range_with_len l.first (length l.numbers) in
    with_slots l.values (drop l.i slots) (drop l.i l.numbers) ≡ with_slots l.initial.values slots l.numbers

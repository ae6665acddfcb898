use Rattle.std.proofs.Common.{◌≡◌, pos, drop, get_or, map}
use Rattle.giotto_check.specs.cited.Slots.{with_slots}
use Rattle.tenant_slots.specs.declared.replacement.Carried.{Carried}
use Rattle.tenant_slots.proofs.replacement.carry_over.Given as goal

abbrev pub invariant-loop-carried : goal.invariant-loop-carried
invariant-loop-carried l =
    let left = drop l.carried-index l.table in
    with_slots l.new_values (map (λ (c : Carried). c.to) left) (map (λ (c : Carried). get_or l.old_values c.from (pos 0)) left)
    ≡ with_slots l.initial.new_values (map (λ (c : Carried). c.to) l.table) (map (λ (c : Carried). get_or l.old_values c.from (pos 0)) l.table)

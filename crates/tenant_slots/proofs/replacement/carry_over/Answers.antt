use Rattle.std.proofs.Common.{◌≡◌, [], pos, get_or, map, drop, rules, sym, ap, ◌∙◌, arith}
use Rattle.std.proofs.lemmas.List.{drop_all}
use Rattle.giotto_check.specs.cited.Slots.{with_slots}
use Rattle.tenant_slots.specs.declared.replacement.Carried.{Carried}
use Rattle.tenant_slots.proofs.CarriedValues.{given_by_slot}
use Rattle.tenant_slots.proofs.CarryTables.{entry_within}
use Rattle.tenant_slots.proofs.replacement.carry_over.Goals as goal

pub bounds-old_values-carried : goal.bounds-old_values-carried
bounds-old_values-carried c =
    let r = c.requires in
    let one = entry_within r.0 r.1 c.args.table.now c.loop-carried.carried-index (record { from = 0; to = 0 }) r.2 c.loop-carried-test.true in
    omega (arith, one.0, r.3)

pub offset_bounds-old_values-carried : goal.offset_bounds-old_values-carried
offset_bounds-old_values-carried c = let inside = bounds-old_values-carried c in search rules

pub bounds-new_values-carried : goal.bounds-new_values-carried
bounds-new_values-carried c =
    let r = c.requires in
    let one = entry_within r.0 r.1 c.args.table.now c.loop-carried.carried-index (record { from = 0; to = 0 }) r.2 c.loop-carried-test.true in
    omega (arith, one.1, r.4, c.loop-carried.auto.new_values)

pub offset_bounds-new_values-carried : goal.offset_bounds-new_values-carried
offset_bounds-new_values-carried c = let inside = bounds-new_values-carried c in search rules

pub returns : goal.returns
returns c = λ old new is long same begun.
    let table = c.args.table.now in
    let none : drop c.loop-carried.carried-index table ≡ [] = drop_all c.loop-carried.carried-index table c.loop-carried-test.false in
    let all : c.loop-carried.new_values ≡ with_slots c.args.new_values.now (map (λ (c : Carried). c.to) table) (map (λ (e : Carried). get_or c.args.old_values.now e.from (pos 0)) table) =
    sym (ap (λ left. with_slots c.loop-carried.new_values (map (λ (c : Carried). c.to) left) (map (λ (e : Carried). get_or c.args.old_values.now e.from (pos 0)) left)) none) ∙ c.loop-carried.invariant in
    given_by_slot old new c.args.old_values.now long table c.args.new_values.now c.loop-carried.new_values is same begun all

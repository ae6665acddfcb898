use Rattle.std.proofs.Common.{◌≡◌, length, min, rules, sym, ◌∙◌, arith}
use Rattle.std.proofs.lemmas.Slice.Zip.{zip_end}
use Rattle.tenant_slots.proofs.WrittenSlots.{all_written}
use Rattle.tenant_slots.proofs.tasks.write_each.Goals as goal

pub returns : goal.returns
returns c =
    let end : length c.loop-slot.yielded ≡ min (length c.args.slots.now) (length c.args.numbers.now) =
    zip_end c.args.slots.now c.args.numbers.now c.loop-slot.yielded c.into_iter-slot-iterator.result c.loop-slot.slot-iterator c.next.new.self c.next.result (search rules) (search rules) c.loop-slot.yielded_by c.in-None.is c.next.ensures.steps in
    sym (all_written c.loop-slot.values c.args.slots.now c.args.numbers.now (length c.loop-slot.yielded) (omega (arith, end))) ∙ c.loop-slot.invariant

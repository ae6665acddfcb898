use Rattle.std.proofs.Common.{◌+◌, length, rules, sym, ◌∙◌, arith}
use Rattle.std.specs.List.{range_with_len}
use Rattle.std.proofs.lemmas.List.FromFn.{get_or-range_with_len, length-range_with_len}
use Rattle.tenant_slots.proofs.WrittenSlots.{next_written, all_written}
use Rattle.tenant_slots.proofs.tasks.write_range.Goals as goal

pub loop-i-preserved : goal.loop-i-preserved
loop-i-preserved c =
    let long = length-range_with_len c.args.first (length c.args.numbers.now) in
    next_written c.loop-i.values _ (range_with_len c.args.first (length c.args.numbers.now)) c.args.numbers.now c.loop-i.i (c.args.first + c.loop-i.i) _ (omega (arith, long, c.loop-i-test.true)) c.loop-i-test.true
    (get_or-range_with_len c.args.first _ c.loop-i.i _ c.loop-i-test.true) (search rules) c.loop-i.invariant

pub returns : goal.returns
returns c =
    let long = length-range_with_len c.args.first (length c.args.numbers.now) in
    sym (all_written c.loop-i.values _ c.args.numbers.now c.loop-i.i (omega (arith, long, c.loop-i-test.false))) ∙ c.loop-i.invariant

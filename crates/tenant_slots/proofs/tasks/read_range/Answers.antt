use Rattle.std.proofs.Common.{◌≡◌, ◌+◌, ◌++◌, ◌∷◌, [], pos, get_or, drop, arith, rules, sym, ◌∙◌}
use Rattle.std.proofs.lemmas.List.{take_more, get_or-drop, length-drop}
use Rattle.tenant_slots.proofs.tasks.read_range.Goals as goal

pub loop-i-preserved : goal.loop-i-preserved
loop-i-preserved c =
    let rest = drop c.args.first c.args.values.now in
    let more = take_more rest c.loop-i.i (pos 0) (omega (arith, length-drop c.args.first c.args.values.now, c.requires.there c.loop-i.i c.loop-i-test.true)) in
    let item : get_or rest c.loop-i.i (pos 0) ≡ _ = get_or-drop c.args.first c.args.values.now c.loop-i.i (pos 0) in
    let pushed : c.push.new.self ≡ c.loop-i.taken ++ get_or c.args.values.now (c.args.first + c.loop-i.i) (pos 0) ∷ [] = search rules in
    pushed ∙ rw (c.loop-i.invariant, ← item) (sym more)

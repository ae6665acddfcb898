use Rattle.std.proofs.Common.{◌≡◌, ◌<◌, ◌≤◌, true, nat_eq, length, get_or, sym, ◌∙◌, arith}
use Rattle.std.proofs.lemmas.Bool.Decides.{nat_tests}
use Rattle.tenant_lines.proofs.SameBytes.{same_at, none_left}
use Rattle.tenant_lines.proofs.words.are_same.Goals as goal

pub loop-i-preserved : goal.loop-i-preserved
loop-i-preserved c =
    let bytes = c.args.bytes.now in
    let others = c.args.others.now in
    let i = c.loop-i.i in
    let within : i < length others = omega (arith, c.loop-i-test.true, c.loop-i.auto.i-end) in
    let same : nat_eq (get_or bytes i 0) (get_or others i 0) ≡ true = grind (arith, nat_tests, c.if-bytes-i.false) in
    let step = same_at bytes others i (grind (arith, within, c.if-bytes-others.false)) within in
    sym (rw same at step) ∙ c.loop-i.invariant

pub returns : goal.returns
returns c =
    let bytes = c.args.bytes.now in
    let others = c.args.others.now in
    let i = c.loop-i.i in
    let past : length others ≤ i = omega (arith, c.loop-i-test.false, c.loop-i.auto.i-end) in
    sym (none_left bytes others i (grind (arith, past, c.if-bytes-others.false)) past) ∙ c.loop-i.invariant

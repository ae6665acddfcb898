use Rattle.std.proofs.Common.{◌≡◌, ◌<◌, ◌-◌, ◌∙◌, List, ℕ, get_or, length, subst, take, rules}
use Rattle.script_checks.proofs.Texts.{taken_off}
use Rattle.script_checks.proofs.lines.without_last_cr.Goals as goal

pub returns-then-ends_with_cr : goal.returns-then-ends_with_cr
returns-then-ends_with_cr c =
    let text = c.args.text.now in
    let cr : (0 < length text) × (get_or text (length text - 1) 0 ≡ 13) =
    subst (λ (l : List ℕ). (0 < length l) × (get_or l (length l - 1) 0 ≡ 13)) c.as_bytes.ensures.value (c.ends_with_cr.ensures.cr c.if-ends_with_cr.true) in
    let front : c.range.result.now ≡ take (length text - 1) text = search rules in
    front ∙ taken_off text cr.0 cr.1

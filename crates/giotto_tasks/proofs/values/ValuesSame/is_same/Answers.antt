use Rattle.std.proofs.Common.{sym, ◌∙◌}
use Rattle.std.specs.Cmp.Rules.{signed_items}
use Rattle.giotto_tasks.proofs.values.ValuesSame.is_same.Goals as goal

pub returns : goal.returns
returns c =
    let decides = signed_items c.args.self.now c.args.other.now in
    let is = rw (c.as_slice.ensures.value, c.as_slice-2.ensures.value) at c.eq.ensures in
    (λ h. decides.0 (sym is ∙ h), λ e. is ∙ decides.1 e)

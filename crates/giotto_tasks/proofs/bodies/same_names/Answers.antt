use Rattle.std.proofs.Common.{sym, ◌∙◌}
use Rattle.giotto_tasks.proofs.cited.NameLemmas.{names_same, names_compared}
use Rattle.giotto_tasks.proofs.bodies.same_names.Goals as goal

pub returns : goal.returns
returns c =
    let is = rw (c.as_slice.ensures, c.as_slice-2.ensures) at c.eq.ensures in
    (λ h. names_same c.args.a.now c.args.b.now (sym is ∙ h), λ e. is ∙ names_compared c.args.a.now c.args.b.now e)

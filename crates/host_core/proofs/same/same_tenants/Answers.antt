use Rattle.std.proofs.Common.{◌≡◌, ap, sym, ◌∙◌}
use Rattle.std.proofs.lemmas.Bool.{false≢true}
use Rattle.giotto_tasks.proofs.cited.ListLemmas.{same_at}
use Rattle.host_core.specs.SameHosts.{compared}
use Rattle.host_core.proofs.same.same_tenants.Goals as goal

pub returns-then-not-is_same : goal.returns-then-not-is_same
returns-then-not-is_same c = (
  λ h. absurd (false≢true h),
  λ e.
      let same = same_at compared compared c.args.ones.now c.args.others.now c.loop-i.i c.index-ones-i.result c.index-others-i.result c.loop-i-test.true e c.index-ones-i.is c.index-others-i.is in
      sym c.if-not-is_same.true ∙ c.is_same.ensures.1 (ap (λ p. p.0) same, ap (λ p. p.1) same),
)

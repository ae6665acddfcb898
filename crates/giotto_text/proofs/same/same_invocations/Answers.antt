use Rattle.std.proofs.Common.{sym, ◌∙◌}
use Rattle.std.proofs.lemmas.Bool.{false≢true}
use Rattle.giotto_text.specs.ProgramTrees.{invocation_of}
use Rattle.giotto_tasks.proofs.cited.ListLemmas.{same_at}
use Rattle.giotto_text.proofs.same.same_invocations.Goals as goal

pub returns-then-not-same_invocation : goal.returns-then-not-same_invocation
returns-then-not-same_invocation c = (
  λ h. absurd (false≢true h),
  λ e.
      let same = same_at invocation_of invocation_of c.args.ones.now c.args.others.now c.loop-i.i c.index-ones-i.result c.index-others-i.result c.loop-i-test.true e c.index-ones-i.is c.index-others-i.is in
      sym c.if-not-same_invocation.true ∙ c.same_invocation.ensures.1 same,
)

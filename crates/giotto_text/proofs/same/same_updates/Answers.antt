use Rattle.std.proofs.Common.{sym, ◌∙◌}
use Rattle.std.proofs.lemmas.Bool.{false≢true}
use Rattle.giotto_text.specs.ProgramTrees.{update_of}
use Rattle.giotto_tasks.proofs.cited.ListLemmas.{same_at}
use Rattle.giotto_text.proofs.same.same_updates.Goals as goal

pub returns-then-not-same_update : goal.returns-then-not-same_update
returns-then-not-same_update c = (
  λ h. absurd (false≢true h),
  λ e.
      let same = same_at update_of update_of c.args.ones.now c.args.others.now c.loop-i.i c.index-ones-i.result c.index-others-i.result c.loop-i-test.true e c.index-ones-i.is c.index-others-i.is in
      sym c.if-not-same_update.true ∙ c.same_update.ensures.1 same,
)

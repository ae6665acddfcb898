use Rattle.std.proofs.Common.{sym, ◌∙◌}
use Rattle.std.proofs.lemmas.Bool.{false≢true}
use Rattle.giotto_text.specs.ProgramTrees.{task_of}
use Rattle.giotto_tasks.proofs.cited.ListLemmas.{same_at}
use Rattle.giotto_text.proofs.same.same_tasks.Goals as goal

pub returns-then-not-same_task : goal.returns-then-not-same_task
returns-then-not-same_task c = (
  λ h. absurd (false≢true h),
  λ e.
      let same = same_at task_of task_of c.args.ones.now c.args.others.now c.loop-i.i c.index-ones-i.result c.index-others-i.result c.loop-i-test.true e c.index-ones-i.is c.index-others-i.is in
      sym c.if-not-same_task.true ∙ c.same_task.ensures.1 same,
)

use Rattle.std.proofs.Common.{sym, ◌∙◌}
use Rattle.std.proofs.lemmas.Bool.{false≢true}
use Rattle.giotto_tasks.proofs.cited.ListLemmas.{same_at}
use Rattle.tenant_state.specs.Tenants.{active_of}
use Rattle.tenant_state.proofs.tenants.same.same_tasks.Goals as goal

pub returns-then-not-same_task : goal.returns-then-not-same_task
returns-then-not-same_task c = (
  λ h. absurd (false≢true h),
  λ e.
      let same = same_at (active_of c.args.one.now) (active_of c.args.other.now) c.args.tasks.now c.args.others.now c.loop-i.i c.index-tasks-i.result c.index-others-i.result c.loop-i-test.true e c.index-tasks-i.is c.index-others-i.is in
      sym c.if-not-same_task.true ∙ c.same_task.ensures.1 same,
)

use Rattle.giotto_tasks.proofs.cited.ListLemmas.{same_more}
use Rattle.tenant_trace.proofs.traces.same_records.Goals as goal

pub loop-i-preserved : goal.loop-i-preserved
loop-i-preserved c = same_more c.args.ones.now.items c.args.others.now.items c.loop-i.i c.loop-i.invariant (c.is_same_at.ensures.0 c.if-not-is_same_at.false)

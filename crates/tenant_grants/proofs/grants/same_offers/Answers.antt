use Rattle.giotto_tasks.proofs.cited.ListLemmas.{same_more}
use Rattle.tenant_grants.proofs.grants.same_offers.Goals as goal

pub loop-i-preserved : goal.loop-i-preserved
loop-i-preserved c = same_more c.args.ones.now.keys c.args.others.now.keys c.loop-i.i c.loop-i.invariant (c.is_same_offer.ensures.0 c.if-not-is_same_offer.false)

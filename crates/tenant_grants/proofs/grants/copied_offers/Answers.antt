use Rattle.std.proofs.Common.{sym}
use Rattle.tenant_grants.proofs.Copies.{offer_copied}
use Rattle.tenant_grants.proofs.grants.copied_offers.Goals as goal

pub loop-place-preserved : goal.loop-place-preserved
loop-place-preserved c =
    offer_copied c.args.offers.now.keys c.loop-place.copies.keys c.insert.new.self.keys c.loop-place.place c.in-Some.offer.now c.requires
    (sym (rw c.in-Some.is at c.get_index.ensures.key)) c.loop-place.invariant (rw c.copy.ensures at c.in_ok-insert.ensures.keys)

use Rattle.std.proofs.Common.{sym}
use Rattle.tenant_grants.specs.declared.rows.Row.TheVariants as row
use Rattle.tenant_grants.proofs.RowLists.{row_pushed}
use Rattle.tenant_grants.proofs.grants.push_offers.Goals as goal

pub loop-i-preserved : goal.loop-i-preserved
loop-i-preserved c =
    row_pushed (λ o. row.Offer o) c.args.offers.now.keys c.loop-i.i c.in-Some.offer.now c.args.rows.now.items c.loop-i.rows.items c.push.new.self.items
    (sym (rw c.in-Some.is at c.get_index.ensures.key)) c.loop-i.invariant (rw c.copy.ensures at c.in_ok-push.ensures.items)

use Rattle.std.proofs.Common.{sym, ◌∙◌}
use Rattle.tenant_grants.proofs.OfferPlaces.{offer_there}
use Rattle.tenant_grants.proofs.grants.Grants.offer_of.Goals as goal

pub returns-in-Some-clause-offer : goal.returns-in-Some-clause-offer
returns-in-Some-clause-offer c =
    let offers = c.self.inside.offers.keys in
    let there = sym (rw c.in-Some.is at c.get_index.ensures.key) in
    let of_it = sym c.is_offer_of.ensures ∙ c.if-is_offer_of.true in
    rw (← c.self.view_is) (sym (offer_there c.args.actuator.now c.args.tenant.now offers c.args.hint c.in-Some.offer.now c.self.invariant.offers_differ there of_it))

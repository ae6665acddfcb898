use Rattle.std.proofs.Common.{sym, ◌∙◌}
use Rattle.giotto_tasks.proofs.cited.ListLemmas.{found_nowhere}
use Rattle.tenant_grants.specs.Grants.{is_offer_of}
use Rattle.tenant_grants.proofs.OfferPlaces.{offer_placed}
use Rattle.tenant_grants.proofs.grants.found_offer.Goals as goal

pub returns-in_err-place-clause-offer : goal.returns-in_err-place-clause-offer
returns-in_err-place-clause-offer c =
    rw (c.from_residual.ensures) (sym (found_nowhere (is_offer_of c.args.actuator.now c.args.tenant.now) c.args.offers.now.keys (sym c.place_of.ensures ∙ c.in_err-place.was)))

pub returns-clause-offer : goal.returns-clause-offer
returns-clause-offer c =
    let there = sym (rw c.in_ok-get_index.was at c.get_index.ensures.key) in
    sym (offer_placed c.args.actuator.now c.args.tenant.now c.args.offers.now.keys c.in_ok-place.place c.in_ok-get_index.field-0.now (sym c.place_of.ensures ∙ c.in_ok-place.was) there)

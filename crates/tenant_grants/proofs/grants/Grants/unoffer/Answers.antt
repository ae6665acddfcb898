use Rattle.tenant_grants.specs.Kept.{same_offer}
use Rattle.tenant_grants.proofs.KeptRows.{held_unoffered}
use Rattle.tenant_grants.proofs.grants.Grants.unoffer.Goals as goal

pub invariant_of-self-2 : goal.invariant_of-self-2
invariant_of-self-2 c =
    held_unoffered (record { place = c.self.inside.own; roster = c.self.inside.roster.value.items; most_offers = c.self.inside.most_offers; most_binds = c.self.inside.most_binds; bounds = c.self.inside.bounds })
    c.self.inside.offers.keys c.shift_remove.new.self.keys c.self.inside.binds.entries (same_offer c.whole_offer-offer.result) c.self.invariant
    c.shift_remove.ensures.keys c.shift_remove.ensures.unique

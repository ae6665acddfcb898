use Rattle.tenant_grants.proofs.KeptRows.{kept_rows}
use Rattle.tenant_grants.proofs.grants.Grants.own.Goals as goal

pub returns-clause-kept : goal.returns-clause-kept
returns-clause-kept c = rw (← c.self.view_is) (kept_rows (record { place = c.self.inside.own; roster = c.self.inside.roster.value.items; most_offers = c.self.inside.most_offers; most_binds = c.self.inside.most_binds; bounds = c.self.inside.bounds }) c.self.inside.offers.keys c.self.inside.binds.entries c.self.invariant)

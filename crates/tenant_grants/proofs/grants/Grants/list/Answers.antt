use Rattle.tenant_grants.proofs.RowLists.{listed}
use Rattle.tenant_grants.proofs.grants.Grants.list.Goals as goal

pub returns-clause-rows : goal.returns-clause-rows
returns-clause-rows c =
    rw (← c.self.view_is, c.from_vec.ensures, c.in_ok-push_binds.ensures.pushed, c.in_ok-push_offers.ensures.pushed, c.new-rows.ensures.items)
    (listed c.self.inside.offers.keys c.self.inside.binds.entries)

use Rattle.tenant_state.proofs.TenantFacts.{known_of}
use Rattle.tenant_state.proofs.tenants.Tenant.known.Goals as goal

pub returns-clause-row : goal.returns-clause-row
returns-clause-row c = rw (← c.self.view_is) (known_of c.self.inside.grants _ _ _ _ _ _ _ _ _ _ c.self.invariant.0 c.self.inside.budgets c.self.inside.waiting c.self.inside.trace c.self.invariant.1)
